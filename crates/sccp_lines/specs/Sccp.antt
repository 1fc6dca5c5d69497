-- The lines of SCCP's requests: sccp-shape, sccp-read, sccp-write, sccp-compact.
use Rattle.std.specs.Prelude.{ℕ, List, [], ◌∷◌, ◌++◌, eqb}
use Rattle.octets.specs.Choice.{when◌then◌else◌}
use Rattle.octets.specs.Answer.{Answer, accepted, refused}
use Rattle.parts.specs.declared.Parts.{Parts}
use Rattle.parts.specs.Spans.{part_of}
use Rattle.sccp.specs.declared.Message.{Message}
use Rattle.sccp.specs.Table.{sccp_shape_of}
use Rattle.sccp.specs.Read.{sccp_read_of}
use Rattle.sccp.specs.Write.{sccp_write_of, sccp_compact_of}
use Rattle.fields.specs.Kinds.{FieldSays}
use Rattle.forms.specs.Rows.{SCCP-SHAPE, SCCP-READ, SCCP-WRITE}
use Rattle.requests.specs.Words.{number_at, octet_at_lem, octets_at}
use Rattle.lines.specs.Lines.{shown, fault_line, octets_line, compact_line, lent}
use Rattle.read_lines.specs.Read.{shape_line}

-- fixed 00 first 42 second 43 third 0102 optional -; a part that is not there, or is empty, is -,
-- and the optional run is without its closing 0
unfoldable pub three_line : List ℕ → Parts → List ℕ
three_line m p =
    shown " fixed " (part_of m p.fixed)
    ++ shown " first " (part_of m p.first)
    ++ shown " second " (part_of m p.second)
    ++ shown " third " (part_of m p.third)
    ++ shown " optional " (part_of m p.optional)

-- type 09, and its parts; or the refusal with its octet
unfoldable pub type_line : List ℕ → Answer Message → List ℕ
type_line m (accepted x) = shown "type " (x.kind ∷ []) ++ three_line m x.parts
type_line m (refused n at) = fault_line n at

-- the line of a row of the family, by what its fields say; sccp-compact is its last
unfoldable pub sccp_line_lem : ℕ → List FieldSays → List ℕ
sccp_line_lem which gs =
    when eqb which SCCP-SHAPE then shape_line (sccp_shape_of (octet_at_lem gs 0))
    else when eqb which SCCP-READ then type_line (octets_at gs 0) (sccp_read_of (octets_at gs 0))
    else when eqb which SCCP-WRITE
    then octets_line (sccp_write_of (number_at gs 0) (octets_at gs 1) (octets_at gs 2) (octets_at gs 3) (octets_at gs 4) (octets_at gs 5) (lent (number_at gs 6)))
    else compact_line (sccp_compact_of (octets_at gs 0) (lent (number_at gs 1)))
