-- Octets that are put as their digits are read are the octets that the word stands for.
use Rattle.std.specs.Prelude.{Some, None}
use Prim.Native.Nat.{ℕ, suc, ◌+◌, ◌*◌, ◌-◌, ◌/◌, ◌%◌, ◌≤◌}
use mathlib.Core.Path.{◌≡◌, refl, sym, ◌∙◌}
use mathlib.Core.Bool.{Bool, true, false, false≢true}
use mathlib.Core.List.{List, [], ◌∷◌}
use mathlib.Core.Logic.{⊎_elim}
use native.Mathlib.Omega.{arith}
use native.Mathlib.Nat.{add-zero}
use borrow.Author.Tests.{le-ltb, ltb-false}
use lib.Dec.{ltb, eqb}
use lib.ListN.{length, get_or, take, set, length-set}
use lib.Seq.{sets, take-set-le}
use Rattle.octets.specs.Choice.{when◌then◌else◌}
use Rattle.octets.proofs.Choice.{chosen}
use Rattle.words.specs.Digits.{value_of}
use Rattle.words.specs.Words.{all_digits_lem, are_octets, pairs_of, octets_of}
use Rattle.words.specs.Into.{Entry, entry, pairs_into, octets_into_lem}

-- two digits an octet
pub pairs-few : (w : List ℕ) → 2 * length (pairs_of w) ≤ length w
unfolding pairs_of
pairs-few [] = omega arith
pairs-few (a ∷ []) = omega arith
pairs-few (a ∷ b ∷ cs) = omega (arith, pairs-few cs)

pub octets-few : (w : List ℕ) → 2 * length (octets_of w) ≤ length w
unfolding octets_of
octets-few w = go (eqb (length w) 1)
  where
    go : (t : Bool) → 2 * length (when t then [] else pairs_of w) ≤ length w
    go true = omega arith
    go false = pairs-few w

-- a word that stands for octets has no more than it may
pub octets-most : (most : ℕ) (w : List ℕ) → are_octets most w ≡ true → length (octets_of w) ≤ most
unfolding are_octets octets_of
octets-most most w e = go (eqb (length w) 1) e
  where
    go : (t : Bool)
        → (when t then eqb (get_or w 0 0) 45 else when eqb (length w) 0 then false else when ltb most (length w / 2) then false else when eqb (length w % 2) 1 then false else all_digits_lem w) ≡ true
        → length (when t then [] else pairs_of w) ≤ most
    go true h = omega arith
    go false h =
        ⊎_elim (λ x. absurd (false≢true x.1))
        (λ x. ⊎_elim (λ y. absurd (false≢true y.1)) (λ y. omega (arith, ltb-false most (length w / 2) y.0, pairs-few w)) (chosen (ltb most (length w / 2)) x.1))
        (chosen (eqb (length w) 0) h)

-- two fewer is as even
even-less : (n : ℕ) → (suc (suc n) % 2 ≡ 1 → ⊥) → n % 2 ≡ 1 → ⊥
even-less n h z = h (omega arith)

module _ (at : ℕ) where
  -- the place after n octets and one
  onward : (buffer : List ℕ) (n : ℕ) (xs : List ℕ) → entry (Some (n + 1 + length xs)) (sets buffer (at + (n + 1)) xs) ≡ entry (Some (n + suc (length xs))) (sets buffer (suc (at + n)) xs)
  onward buffer n xs =
      let s : at + (n + 1) ≡ suc (at + n) = omega arith in
      let k : n + 1 + length xs ≡ n + suc (length xs) = omega arith in
      rw (s, k) refl

  -- digits are put as the octets that they stand for
  pairs-into : (w buffer : List ℕ) (n : ℕ) → (length w % 2 ≡ 1 → ⊥) → all_digits_lem w ≡ true → pairs_into w buffer at n ≡ entry (Some (n + length (pairs_of w))) (sets buffer (at + n) (pairs_of w))
  unfolding pairs_into pairs_of all_digits_lem
  pairs-into [] buffer n h e = rw add-zero refl
  pairs-into (a ∷ []) buffer n h e = absurd (h refl)
  pairs-into (a ∷ b ∷ cs) buffer n h e =
      ⊎_elim (λ x. absurd (false≢true x.1))
      (λ x. ⊎_elim (λ y. absurd (false≢true y.1))
      (λ y. rw (x.0, y.0) (pairs-into cs (set buffer (at + n) ((16 * value_of a + value_of b) % 256)) (n + 1) (even-less (length cs) h) y.1 ∙ onward (set buffer (at + n) ((16 * value_of a + value_of b) % 256)) n (pairs_of cs)))
      (chosen (ltb 15 (value_of b)) x.1))
      (chosen (ltb 15 (value_of a)) e)

  -- an octet that is no digit ends it
  pairs-broken : (w buffer : List ℕ) (n : ℕ) → all_digits_lem w ≡ false → (pairs_into w buffer at n).count ≡ None
  unfolding pairs_into all_digits_lem
  pairs-broken [] buffer n e = absurd (false≢true (sym e))
  pairs-broken (a ∷ []) buffer n e = refl
  pairs-broken (a ∷ b ∷ cs) buffer n e = first (ltb 15 (value_of a)) (ltb 15 (value_of b)) (pairs-broken cs (set buffer (at + n) ((16 * value_of a + value_of b) % 256)) (n + 1)) e
    where
      first : (s t : Bool) → (all_digits_lem cs ≡ false → (pairs_into cs (set buffer (at + n) ((16 * value_of a + value_of b) % 256)) at (n + 1)).count ≡ None)
          → (when s then false else when t then false else all_digits_lem cs) ≡ false
          → (when s then entry None buffer else when t then entry None buffer else pairs_into cs (set buffer (at + n) ((16 * value_of a + value_of b) % 256)) at (n + 1)).count ≡ None
      first true t ih q = refl
      first false true ih q = refl
      first false false ih q = ih q

  -- nothing before `at` changes, and the buffer keeps its length
  pairs-keep : (w buffer : List ℕ) (n : ℕ) → (take at (pairs_into w buffer at n).left ≡ take at buffer) × (length (pairs_into w buffer at n).left ≡ length buffer)
  unfolding pairs_into
  pairs-keep [] buffer n = (refl, refl)
  pairs-keep (a ∷ []) buffer n = (refl, refl)
  pairs-keep (a ∷ b ∷ cs) buffer n = go (ltb 15 (value_of a)) (ltb 15 (value_of b)) (pairs-keep cs (set buffer (at + n) ((16 * value_of a + value_of b) % 256)) (n + 1))
    where
      go : (s t : Bool)
          → (take at (pairs_into cs (set buffer (at + n) ((16 * value_of a + value_of b) % 256)) at (n + 1)).left ≡ take at (set buffer (at + n) ((16 * value_of a + value_of b) % 256)))
          × (length (pairs_into cs (set buffer (at + n) ((16 * value_of a + value_of b) % 256)) at (n + 1)).left ≡ length (set buffer (at + n) ((16 * value_of a + value_of b) % 256)))
          → (take at (when s then entry None buffer else when t then entry None buffer else pairs_into cs (set buffer (at + n) ((16 * value_of a + value_of b) % 256)) at (n + 1)).left ≡ take at buffer)
          × (length (when s then entry None buffer else when t then entry None buffer else pairs_into cs (set buffer (at + n) ((16 * value_of a + value_of b) % 256)) at (n + 1)).left ≡ length buffer)
      go true t e = (refl, refl)
      go false true e = (refl, refl)
      go false false e = (e.0 ∙ take-set-le at buffer (at + n) _ (omega arith), e.1 ∙ length-set buffer (at + n) _)

-- so it is of any word
pub into-keeps : (most : ℕ) (word buffer : List ℕ) (at : ℕ) → (take at (octets_into_lem most word buffer at).left ≡ take at buffer) × (length (octets_into_lem most word buffer at).left ≡ length buffer)
unfolding octets_into_lem
into-keeps most word buffer at = go (eqb (length word) 1) (eqb (length word) 0) (ltb most (length word / 2)) (eqb (length word % 2) 1) (ltb (length buffer) at) (ltb (length buffer - at) (length word / 2))
  where
    chose : Bool → Bool → Bool → Bool → Bool → Bool → Entry
    chose one none many odd past full =
        when one then entry (when eqb (get_or word 0 0) 45 then Some 0 else None) buffer
        else when none then entry None buffer
        else when many then entry None buffer
        else when odd then entry None buffer
        else when past then entry None buffer
        else when full then entry None buffer
        else pairs_into word buffer at 0

    go : (one none many odd past full : Bool) → (take at (chose one none many odd past full).left ≡ take at buffer) × (length (chose one none many odd past full).left ≡ length buffer)
    go true none many odd past full = (refl, refl)
    go false true many odd past full = (refl, refl)
    go false false true odd past full = (refl, refl)
    go false false false true past full = (refl, refl)
    go false false false false true full = (refl, refl)
    go false false false false false true = (refl, refl)
    go false false false false false false = pairs-keep at word buffer 0

module _ (most : ℕ) (word buffer : List ℕ) (at : ℕ) (h : at + length word / 2 ≤ length buffer) where
  -- there is room
  roomy : (ltb (length buffer) at ≡ false) × (ltb (length buffer - at) (length word / 2) ≡ false)
  roomy = (le-ltb (length buffer) at (omega arith), le-ltb (length buffer - at) (length word / 2) (omega arith))

  -- a word of octets: they stand in the buffer from `at` on, and nothing else changes
  pub octets-into : are_octets most word ≡ true → octets_into_lem most word buffer at ≡ entry (Some (length (octets_of word))) (sets buffer at (octets_of word))
  unfolding are_octets octets_into_lem octets_of
  octets-into e = go (eqb (length word) 1) (eqb (length word) 0) (ltb most (length word / 2)) (eqb (length word % 2) 1) refl e
    where
      go : (one none many odd : Bool) → eqb (length word % 2) 1 ≡ odd
          → (when one then eqb (get_or word 0 0) 45 else when none then false else when many then false else when odd then false else all_digits_lem word) ≡ true
          → (when one then entry (when eqb (get_or word 0 0) 45 then Some 0 else None) buffer
          else when none then entry None buffer
          else when many then entry None buffer
          else when odd then entry None buffer
          else when ltb (length buffer) at then entry None buffer
          else when ltb (length buffer - at) (length word / 2) then entry None buffer
          else pairs_into word buffer at 0)
          ≡ entry (Some (length (when one then [] else pairs_of word))) (sets buffer at (when one then [] else pairs_of word))
      go true none many odd o q = rw q refl
      go false true many odd o q = absurd (false≢true q)
      go false false true odd o q = absurd (false≢true q)
      go false false false true o q = absurd (false≢true q)
      go false false false false o q =
          let z : at + 0 ≡ at = omega arith in
          let y : 0 + length (pairs_of word) ≡ length (pairs_of word) = omega arith in
          rw (roomy.0, roomy.1) (pairs-into at word buffer 0 (λ m. false≢true (sym o ∙ odd-true m)) q ∙ rw (z, y) refl)
        where
          odd-true : length word % 2 ≡ 1 → eqb (length word % 2) 1 ≡ true
          odd-true m = rw m refl

  -- another word
  pub none-into : are_octets most word ≡ false → (octets_into_lem most word buffer at).count ≡ None
  unfolding are_octets octets_into_lem
  none-into e = go (eqb (length word) 1) (eqb (length word) 0) (ltb most (length word / 2)) (eqb (length word % 2) 1) e
    where
      go : (one none many odd : Bool)
          → (when one then eqb (get_or word 0 0) 45 else when none then false else when many then false else when odd then false else all_digits_lem word) ≡ false
          → (when one then entry (when eqb (get_or word 0 0) 45 then Some 0 else None) buffer
          else when none then entry None buffer
          else when many then entry None buffer
          else when odd then entry None buffer
          else when ltb (length buffer) at then entry None buffer
          else when ltb (length buffer - at) (length word / 2) then entry None buffer
          else pairs_into word buffer at 0).count ≡ None
      go true none many odd q = rw q refl
      go false true many odd q = refl
      go false false true odd q = refl
      go false false false true q = refl
      go false false false false q = rw (roomy.0, roomy.1) (pairs-broken at word buffer 0 q)
