-- Any two outcomes that the public function's contract allows are equal: the
-- buffer and the next place.
use Prim.Native.Nat.{ℕ}
use mathlib.Core.Path.{◌≡◌}
use mathlib.Core.List.{List}
use Rattle.printing.specs.Sheet.{sheet, pour}
use Rattle.requests.specs.declared.Request.{Request}
use Rattle.requests.specs.Along.{said_in}
use Rattle.lines.proofs.Determined.{sheet-determined}
use Rattle.codec_lines.specs.Codec.{codec_line_lem}

-- of the codec's requests
pub codec-line-determined : (request : Request) (xs out : List ℕ) {left rest : List ℕ} {r q : ℕ} → sheet left r ≡ pour (sheet out 0) (codec_line_lem request.which (said_in xs request.fields)) → sheet rest q ≡ pour (sheet out 0) (codec_line_lem request.which (said_in xs request.fields)) → (left ≡ rest) × (r ≡ q)
codec-line-determined request xs out = sheet-determined
