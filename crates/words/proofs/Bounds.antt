-- How far a word reaches, and how large what it stands for can be.
use Rattle.std.specs.Prelude.{Some, None}
use Prim.Native.Nat.{ℕ, suc, ◌+◌, ◌*◌, ◌%◌, ◌≤◌, ◌<◌}
use mathlib.Core.Path.{◌≡◌}
use mathlib.Core.Bool.{Bool, true, false}
use mathlib.Core.List.{List, [], ◌∷◌}
use mathlib.Core.Logic.{⊎_elim}
use native.Mathlib.Omega.{arith}
use native.Mathlib.Nat.{mod-lt}
use borrow.Author.Tests.{ltb-false}
use lib.Dec.{ltb, eqb}
use lib.ListN.{length, get_or, drop, length-drop}
use Rattle.octets.specs.Choice.{when◌then◌else◌}
use Rattle.octets.proofs.Choice.{chosen}
use Rattle.words.specs.Digits.{value_of}
use Rattle.words.specs.Words.{word_length, digits_from, number_of, all_digits_lem, octet_of_lem}

-- a word ends in its line
word-short : (l : List ℕ) → word_length l ≤ length l
unfolding word_length
word-short [] = omega arith
word-short (c ∷ cs) = go (eqb c 32) (word-short cs)
  where
    go : (t : Bool) → word_length cs ≤ length cs → (when t then 0 else suc (word_length cs)) ≤ suc (length cs)
    go true h = omega arith
    go false h = omega arith

pub word-within : (l : List ℕ) (from : ℕ) → from ≤ length l → from + word_length (drop from l) ≤ length l
word-within l from h = omega (arith, word-short (drop from l), length-drop from l)

is-not : {v : ℕ} → None ≡ Some v → ⊥
is-not e = cc

is_same : {v w : ℕ} → Some v ≡ Some w → v ≡ w
is_same e = cc

-- a number is at most what it may be
digits-most : (most v w : ℕ) (l : List ℕ) → v ≤ most → digits_from most v l ≡ Some w → w ≤ most
unfolding digits_from
digits-most most v w [] h e = omega (arith, is_same e)
digits-most most v w (c ∷ cs) h e =
    ⊎_elim (λ x. absurd (is-not x.1))
    (λ x. ⊎_elim (λ y. absurd (is-not y.1)) (λ y. digits-most most (10 * v + value_of c) w cs (ltb-false most (10 * v + value_of c) y.0) y.1) (chosen (ltb most (10 * v + value_of c)) x.1))
    (chosen (ltb 9 (value_of c)) e)

pub number-most : (most v : ℕ) (l : List ℕ) → number_of most l ≡ Some v → v ≤ most
unfolding number_of
number-most most v l e =
    ⊎_elim (λ x. absurd (is-not x.1))
    (λ x. ⊎_elim (λ y. absurd (is-not y.1)) (λ y. digits-most most 0 v l (omega arith) y.1) (chosen (ltb 10 (length l)) x.1))
    (chosen (eqb (length l) 0) e)

-- an octet is below 256
pub octet-most : (v : ℕ) (l : List ℕ) → octet_of_lem l ≡ Some v → v ≤ 255
unfolding octet_of_lem
octet-most v l e =
    ⊎_elim
    (λ x. ⊎_elim (λ y. let h : (16 * value_of (get_or l 0 0) + value_of (get_or l 1 0)) % 256 < 256 = mod-lt _ (omega arith) in omega (arith, is_same y.1)) (λ y. absurd (is-not y.1)) (chosen (all_digits_lem l) x.1))
    (λ x. absurd (is-not x.1))
    (chosen (eqb (length l) 2) e)
