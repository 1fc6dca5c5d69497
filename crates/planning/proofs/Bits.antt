-- The status of a row: its first n bits are set.
use Prim.Native.Nat.{ℕ, zero, suc, ◌+◌, ◌-◌, ◌*◌, ◌/◌, ◌%◌, ◌^◌, ◌<◌}
use mathlib.Core.Path.{◌≡◌, refl, ◌∙◌, ap}
use mathlib.Core.Bool.{Bool, true, false}
use mathlib.Core.List.{List, [], ◌∷◌}
use mathlib.Core.Logic.{⊎_elim}
use native.Mathlib.Omega.{arith}
use native.Mathlib.Nat.{eq-or-lt_of_le}
use borrow.Author.Tests.{ltb-true}
use lib.Dec.{eqb, ltb}
use lib.ListN.{length}
use Rattle.octets.specs.Octet.{octet}
use Rattle.octets.specs.Choice.{when◌then◌else◌}
use Rattle.octets.proofs.Choice.{chosen, decided, true-false}
use Rattle.asks.specs.Asks.{bit_at, mark_of}
use Rattle.planning.specs.Planner.{ones, low_ones_lem, cgb}

-- ---- a test of each number below n, computed
all_below : (ℕ → Bool) → ℕ → Bool
all_below f zero = true
all_below f (suc n) = when f n then all_below f n else false

all-below : (f : ℕ → Bool) (n : ℕ) → all_below f n ≡ true → (i : ℕ) → i < n → f i ≡ true
unfolding all_below
all-below f zero e i h = absurd (omega arith)
all-below f (suc n) e i h =
    ⊎_elim
    (λ t. ⊎_elim (λ q. rw q t.0) (λ l. all-below f n t.1 i (omega arith)) (eq-or-lt_of_le {n = i} {m = n} (omega arith)))
    (λ t. absurd (true-false {t = false} t.1 refl))
    (chosen (f n) e)

-- bit i of an octet with its first p bits set
bits-set : (p i : ℕ) → p < 8 → i < p → eqb ((2 ^ p - 1) / 2 ^ i % 2) 1 ≡ true
unfolding all_below
bits-set p i h l =
    let a = all-below (λ q. all_below (λ j. eqb ((2 ^ q - 1) / 2 ^ j % 2) 1) q) 8 refl p h in
    all-below (λ j. eqb ((2 ^ p - 1) / 2 ^ j % 2) 1) p a i l

bits_full : (i : ℕ) → i < 8 → eqb (255 / 2 ^ i % 2) 1 ≡ true
unfolding all_below
bits_full i l = all-below (λ j. eqb (255 / 2 ^ j % 2) 1) 8 refl i l

bit-set : (p i : ℕ) → i < 8 → i < p → eqb (low_ones_lem p / 2 ^ i % 2) 1 ≡ true
unfolding low_ones_lem
bit-set p i h l =
    ⊎_elim
    (λ t. rw t (bits-set p i (ltb-true p 8 t) l))
    (λ t. rw t (bits_full i h))
    (decided (ltb p 8))

pub length-ones : (k n : ℕ) → length (ones k n) ≡ k
unfolding ones
length-ones zero n = refl
length-ones (suc k) n = ap suc (length-ones k (n - 8))

ones-octet : (k n j : ℕ) → j < k → octet (ones k n) j ≡ low_ones_lem (n - 8 * j)
unfolding ones
ones-octet zero n j h = absurd (omega arith)
ones-octet (suc k) n zero h = let e : n - 8 * 0 ≡ n = omega arith in rw e
ones-octet (suc k) n (suc j) h =
    let e : n - 8 - 8 * j ≡ n - 8 * suc j = omega arith in
    ones-octet k (n - 8) j (omega arith) ∙ ap low_ones_lem e

-- the status stands at octet 7
status-octet : (c kind r : ℕ) (status : List ℕ) (j : ℕ) → octet (cgb c kind r status) (7 + j) ≡ octet status j
status-octet c kind r status j = let e : 7 + j ≡ suc (suc (suc (suc (suc (suc (suc j)))))) = omega arith in rw e

-- each of the first n circuits is marked
pub mark-ones : (c kind r k n i : ℕ) → i < n → i / 8 < k → mark_of (cgb c kind r (ones k n)) 7 i ≡ true
unfolding mark_of bit_at
mark-ones c kind r k n i h l =
    rw (status-octet c kind r (ones k n) (i / 8), ones-octet k n (i / 8) l) (bit-set (n - 8 * (i / 8)) (i % 8) (omega arith) (omega arith))

-- a status of one octet
pub mark-one : (c kind r o i : ℕ) → i < 8 → mark_of (cgb c kind r (o ∷ [])) 7 i ≡ eqb (o / 2 ^ i % 2) 1
unfolding mark_of bit_at
mark-one c kind r o i h =
    let e : i / 8 ≡ 0 = omega arith in
    let q : i % 8 ≡ i = omega arith in
    rw (e, q)
