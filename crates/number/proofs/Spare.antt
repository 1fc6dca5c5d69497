-- The spare bits of octet 1 say nothing.
use Prim.Native.Nat.{ℕ, zero, suc, ◌-◌, ◌*◌, ◌/◌}
use mathlib.Core.Path.{◌≡◌, refl}
use mathlib.Core.List.{List, [], ◌∷◌}
use native.Mathlib.Omega.{arith}
use lib.ListN.{length, get_or}
use Rattle.number.specs.Contents.{signals_in}
use Rattle.number.specs.Read.{number_in}
use Rattle.number.specs.WellFormed.{spareless}

-- the last octet's high half, whatever the spare bits of octet 1
last-half-same : (first second other : ℕ) (octets : List ℕ) (i : ℕ) → second / 16 ≡ other / 16 → get_or (first ∷ second ∷ octets) i 0 / 16 ≡ get_or (first ∷ other ∷ octets) i 0 / 16
last-half-same first second other octets zero e = refl
last-half-same first second other octets (suc zero) e = e
last-half-same first second other octets (suc (suc i)) e = refl

-- the four spare bits are ignored
pub spare-ignored : (contents : List ℕ) → number_in (spareless contents) ≡ number_in contents
unfolding signals_in
spare-ignored [] = refl
spare-ignored (first ∷ []) = refl
spare-ignored (first ∷ second ∷ octets) =
    let e : second / 16 * 16 / 16 ≡ second / 16 = omega arith in
    let p : second / 16 * 16 / 128 ≡ second / 128 = omega arith in
    rw (last-half-same first (second / 16 * 16) second octets (suc (suc (length octets)) - 1) e, e, p)
