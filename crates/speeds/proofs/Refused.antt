-- What C can tell from the number: coding a velocity.
use Prim.Native.Nat.{ℕ}
use mathlib.Core.Path.{◌≡◌}
use mathlib.Core.List.{List}
use native.Mathlib.Omega.{arith}
use Rattle.octets.specs.Answer.{refused}
use Rattle.octets.proofs.Places.{refusal-so}
use Rattle.velocity.specs.declared.Velocity.{Velocity}
use Rattle.boundary.specs.Boundary.{given, given_by}
use Rattle.boundary.specs.Refuses.{Refuses}
use Rattle.boundary.proofs.Numbers.{AtLeastOne}
use Rattle.boundary.proofs.Places.{Placeless}
use Rattle.boundary.proofs.Refused.{by-32-wide}
use Rattle.speeds.specs.Velocities.{code_gives, code_gives_faults}
use Rattle.speeds.proofs.Speeds.{code-gives-small, code-gives-judges, code-gives-keeps}

-- no refusal is about an octet
pub code-gives-placeless : (v : Velocity) (codes : List ℕ) (n at : ℕ) → (code_gives v codes).answer ≡ refused n at → at ≡ 0
code-gives-placeless v codes = refusal-so Placeless _ (code_gives_faults v codes) (code-gives-judges v codes) (λ at h. h.0, (λ at h. h.0, tt))

pub code-refuses : (v : Velocity) (codes : List ℕ) (r : ℕ) (left : List ℕ) → given r left ≡ given_by (code_gives v codes) → Refuses 65536 r (code_gives v codes).answer codes left
code-refuses v codes r left = by-32-wide (code_gives v codes) r codes left (code-gives-small v codes) (refusal-so AtLeastOne _ _ (code-gives-judges v codes) (λ _ _. omega arith, (λ _ _. omega arith, tt))) (λ n at q. omega (arith, code-gives-placeless v codes n at q)) (code-gives-keeps v codes)
