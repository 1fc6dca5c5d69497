-- Laws of signals written two to an octet, and of the test for one above 15.
use Prim.Native.Nat.{ℕ, zero, suc, ◌+◌, ◌*◌, ◌/◌, ◌%◌, ◌<◌, ◌≤◌}
use mathlib.Core.Path.{◌≡◌, refl}
use mathlib.Core.Bool.{true, false}
use mathlib.Core.List.{List, [], ◌∷◌}
use mathlib.Core.Logic.{⊎_elim}
use native.Mathlib.Omega.{arith}
use borrow.Author.Tests.{ltb-true, ltb-false}
use lib.Dec.{ltb}
use lib.ListN.{length, get_or}
use Rattle.octets.proofs.Choice.{chosen, decided}
use Rattle.number.specs.Halves.{two_to_an_octet}
use Rattle.dialling.specs.Write.{any_above15}

-- an octet for two signals, and for one that is left
pub length-packed : (signals : List ℕ) → length (two_to_an_octet signals) ≡ (length signals + 1) / 2
unfolding two_to_an_octet
length-packed [] = refl
length-packed (low ∷ []) = refl
length-packed (low ∷ high ∷ signals) = let e = length-packed signals in omega arith

-- what a test for a signal above 15 has found
pub found-above : (signals : List ℕ) → any_above15 signals ≡ true → (k : ℕ) × (k < length signals) × (15 < get_or signals k 0)
unfolding any_above15
found-above [] e = let z : ◌≡◌ {A = ℕ} 0 1 = cc in absurd (omega arith)
found-above (signal ∷ signals) e =
    ⊎_elim
    (λ h. (0, omega arith, ltb-true 15 signal h.0))
    (λ h. let r : (k : ℕ) × (k < length signals) × (15 < get_or signals k 0) = found-above signals h.1 in (suc r.0, omega arith, r.2))
    (chosen (ltb 15 signal) e)

-- where it finds none, each signal is at most 15
pub none_above : (signals : List ℕ) → any_above15 signals ≡ false → (k : ℕ) → get_or signals k 0 ≤ 15
unfolding any_above15
none_above [] e k = omega arith
none_above (signal ∷ signals) e zero =
    ⊎_elim (λ h. let z : ◌≡◌ {A = ℕ} 0 1 = cc in absurd (omega arith)) (λ h. ltb-false 15 signal h.0) (chosen (ltb 15 signal) e)
none_above (signal ∷ signals) e (suc k) =
    ⊎_elim (λ h. let z : ◌≡◌ {A = ℕ} 0 1 = cc in absurd (omega arith)) (λ h. none_above signals h.1 k) (chosen (ltb 15 signal) e)

-- where each signal is at most 15, a test for one above finds none
pub not-above : (signals : List ℕ) → ((k : ℕ) → get_or signals k 0 ≤ 15) → any_above15 signals ≡ false
not-above signals h =
    ⊎_elim (λ t. let r = found-above signals t in let q = h r.0 in absurd (omega arith)) (λ t. t) (decided (any_above15 signals))

-- the low half of octet j is signal 2 j
pub packed-low : (signals : List ℕ) → ((k : ℕ) → get_or signals k 0 ≤ 15) → (j : ℕ) → get_or (two_to_an_octet signals) j 0 % 16 ≡ get_or signals (2 * j) 0
unfolding two_to_an_octet
packed-low [] h j = refl
packed-low (low ∷ []) h zero = let q = h 0 in omega arith
packed-low (low ∷ []) h (suc j) = let e : 2 * suc j ≡ suc (suc (2 * j)) = omega arith in rw e
packed-low (low ∷ high ∷ signals) h zero = let q = h 0 in omega arith
packed-low (low ∷ high ∷ signals) h (suc j) =
    let e : 2 * suc j ≡ suc (suc (2 * j)) = omega arith in
    rw e (packed-low signals (λ k. h (suc (suc k))) j)

-- the high half of octet j is signal 2 j + 1, or 0 where there is none
pub packed-high : (signals : List ℕ) → ((k : ℕ) → get_or signals k 0 ≤ 15) → (j : ℕ) → get_or (two_to_an_octet signals) j 0 / 16 ≡ get_or signals (2 * j + 1) 0
unfolding two_to_an_octet
packed-high [] h j = refl
packed-high (low ∷ []) h zero = let q = h 0 in omega arith
packed-high (low ∷ []) h (suc j) = let e : 2 * suc j + 1 ≡ suc (suc (2 * j + 1)) = omega arith in rw e
packed-high (low ∷ high ∷ signals) h zero = let q = h 0 in omega arith
packed-high (low ∷ high ∷ signals) h (suc j) =
    let e : 2 * suc j + 1 ≡ suc (suc (2 * j + 1)) = omega arith in
    rw e (packed-high signals (λ k. h (suc (suc k))) j)

-- the octets after the first two
pub octet-past : (first second : ℕ) (octets : List ℕ) (j : ℕ) → get_or (first ∷ second ∷ octets) (j + 2) 0 ≡ get_or octets j 0
octet-past first second octets j = let e : j + 2 ≡ suc (suc j) = omega arith in rw e
