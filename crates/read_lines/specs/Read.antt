-- The lines of a type's shape, and of a message.
use Rattle.std.specs.Prelude.{ℕ, Bool, true, false, List, [], ◌∷◌, ◌++◌, Option, Some, None}
use Rattle.layout.specs.declared.Shape.{Shape}
use Rattle.octets.specs.Answer.{Answer, accepted, refused}
use Rattle.parts.specs.declared.Parts.{Parts}
use Rattle.parts.specs.Spans.{part_of}
use Rattle.isup.specs.declared.Message.{Message}
use Rattle.words.specs.Said.{said}
use Rattle.lines.specs.Lines.{counted, shown, refusal, fault_line}

-- optional yes, or optional no
abbrev pub optional_word : Bool → List ℕ
optional_word true = said " optional yes"
optional_word false = said " optional no"

-- fixed 5 variable 1 optional yes; 3 for a type that is not in the table
unfoldable pub shape_line : Option Shape → List ℕ
shape_line (Some s) =
    counted "fixed " s.fixed ++ counted " variable " s.vars ++ optional_word s.opt
shape_line None = refusal 3

-- fixed - first 03 second - optional -; a part that is not there, or is empty, is -, and the
-- optional run is without its closing 0
unfoldable pub parts_line : List ℕ → Parts → List ℕ
parts_line m p =
    shown " fixed " (part_of m p.fixed)
    ++ shown " first " (part_of m p.first)
    ++ shown " second " (part_of m p.second)
    ++ shown " optional " (part_of m p.optional)

-- circuit 5 type 17, and its parts; or the refusal with its octet
unfoldable pub read_line : List ℕ → Answer Message → List ℕ
read_line m (accepted x) =
    counted "circuit " x.circuit ++ shown " type " (x.kind ∷ []) ++ parts_line m x.parts
read_line m (refused n at) = fault_line n at
