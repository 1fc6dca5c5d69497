-- The lines of BICC's requests: bicc-shape, bicc-read, bicc-write, bicc-compact.
use Rattle.std.specs.Prelude.{ℕ, List, [], ◌∷◌, ◌++◌, eqb}
use Rattle.octets.specs.Choice.{when◌then◌else◌}
use Rattle.octets.specs.Answer.{Answer, accepted, refused}
use Rattle.bicc.specs.declared.Message.{Message}
use Rattle.bicc.specs.Table.{call_shape_of}
use Rattle.bicc.specs.Read.{call_read_of}
use Rattle.bicc.specs.Write.{call_write_of, call_compact_of}
use Rattle.fields.specs.Kinds.{FieldSays}
use Rattle.forms.specs.Rows.{BICC-SHAPE, BICC-READ, BICC-WRITE}
use Rattle.requests.specs.Words.{number_at, octet_at_lem, octets_at}
use Rattle.lines.specs.Lines.{counted, shown, fault_line, octets_line, compact_line, lent}
use Rattle.read_lines.specs.Read.{shape_line, parts_line}

-- code 305419896 type 01, and its parts; or the refusal with its octet
unfoldable pub code_line : List ℕ → Answer Message → List ℕ
code_line m (accepted x) =
    counted "code " x.code ++ shown " type " (x.kind ∷ []) ++ parts_line m x.parts
code_line m (refused n at) = fault_line n at

-- the line of a row of the family, by what its fields say; bicc-compact is its last
unfoldable pub bicc_line_lem : ℕ → List FieldSays → List ℕ
bicc_line_lem which gs =
    when eqb which BICC-SHAPE then shape_line (call_shape_of (octet_at_lem gs 0))
    else when eqb which BICC-READ then code_line (octets_at gs 0) (call_read_of (octets_at gs 0))
    else when eqb which BICC-WRITE
    then octets_line (call_write_of (number_at gs 0) (number_at gs 1) (octets_at gs 2) (octets_at gs 3) (octets_at gs 4) (octets_at gs 5) (lent (number_at gs 6)))
    else compact_line (call_compact_of (octets_at gs 0) (lent (number_at gs 1)))
