-- Any two outcomes that a public function's contract allows are equal: the
-- buffer and the next place.
use Rattle.std.specs.Prelude.{Option}
use Rattle.layout.specs.declared.Shape.{Shape}
use Prim.Native.Nat.{ℕ}
use mathlib.Core.Path.{◌≡◌}
use mathlib.Core.List.{List}
use Rattle.octets.proofs.Answer.{one_answer}
use Rattle.parts.specs.declared.Parts.{Parts}
use Rattle.parts.specs.declared.Span.{Span}
use Rattle.parts.specs.Spans.{part_of}
use Rattle.isup.specs.Table.{shape_of}
use Rattle.isup.specs.Read.{read_of}
use Rattle.printing.specs.Sheet.{sheet, pour}
use Rattle.lines.proofs.Determined.{sheet-determined}
use Rattle.read_lines.specs.Read.{shape_line, parts_line, read_line}

-- the octets of a span
pub part-determined : (message : List ℕ) (span : Span) {r s : List ℕ} → r ≡ part_of message span → s ≡ part_of message span → r ≡ s
part-determined message span = one_answer

-- of a row
pub say-row-determined : (row : Option Shape) (out : List ℕ) {left rest : List ℕ} {r q : ℕ} → sheet left r ≡ pour (sheet out 0) (shape_line row) → sheet rest q ≡ pour (sheet out 0) (shape_line row) → (left ≡ rest) × (r ≡ q)
say-row-determined row out = sheet-determined

-- of the parts of a message
pub put-parts-determined : (message : List ℕ) (parts : Parts) (out : List ℕ) (at : ℕ) {left rest : List ℕ} {r q : ℕ} → sheet left r ≡ pour (sheet out at) (parts_line message parts) → sheet rest q ≡ pour (sheet out at) (parts_line message parts) → (left ≡ rest) × (r ≡ q)
put-parts-determined message parts out at = sheet-determined

-- of a type's shape
pub say-shape-determined : (kind : ℕ) (out : List ℕ) {left rest : List ℕ} {r q : ℕ} → sheet left r ≡ pour (sheet out 0) (shape_line (shape_of kind)) → sheet rest q ≡ pour (sheet out 0) (shape_line (shape_of kind)) → (left ≡ rest) × (r ≡ q)
say-shape-determined kind out = sheet-determined

-- of a message
pub say-read-determined : (message out : List ℕ) {left rest : List ℕ} {r q : ℕ} → sheet left r ≡ pour (sheet out 0) (read_line message (read_of message)) → sheet rest q ≡ pour (sheet out 0) (read_line message (read_of message)) → (left ≡ rest) × (r ≡ q)
say-read-determined message out = sheet-determined
