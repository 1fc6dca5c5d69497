-- Any two outcomes that the public function's contract allows are equal: the
-- buffer and the next place.
use Rattle.std.proofs.Common.{◌≡◌, ℕ, List}
use Rattle.printing.specs.Sheet.{sheet, pour}
use Rattle.requests.specs.declared.Request.{Request}
use Rattle.requests.specs.Along.{said_in}
use Rattle.lines.proofs.Determined.{sheet-determined}
use Rattle.velocity_lines.specs.Velocities.{velocities_line_lem}

-- of the requests for velocities
pub velocities-line-determined : (request : Request) (xs out : List ℕ) {left rest : List ℕ} {r q : ℕ} → sheet left r ≡ pour (sheet out 0) (velocities_line_lem request.which (said_in xs request.fields)) → sheet rest q ≡ pour (sheet out 0) (velocities_line_lem request.which (said_in xs request.fields)) → (left ≡ rest) × (r ≡ q)
velocities-line-determined request xs out = sheet-determined
