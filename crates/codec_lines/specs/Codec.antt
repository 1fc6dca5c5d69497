-- The lines of the codec's requests: shape, read, write, compact, find.
use Rattle.std.specs.Prelude.{ℕ, List, eqb}
use Rattle.octets.specs.Octet.{octets}
use Rattle.octets.specs.Choice.{when◌then◌else◌}
use Rattle.octets.specs.Answer.{Answer, accepted, refused}
use Rattle.isup.specs.Table.{shape_of}
use Rattle.isup.specs.Read.{read_of}
use Rattle.finding.specs.Find.{Spot, locate_of}
use Rattle.isup.specs.Write.{write_of, compact_of}
use Rattle.fields.specs.Kinds.{FieldSays}
use Rattle.forms.specs.Rows.{SHAPE, READ, WRITE, COMPACT}
use Rattle.requests.specs.Words.{number_at, octet_at_lem, octets_at}
use Rattle.lines.specs.Lines.{shown, fault_line, octets_line, compact_line, lent}
use Rattle.read_lines.specs.Read.{shape_line, read_line}

-- message 41 or defaults 41; or the refusal with its octet
unfoldable pub found_line : List ℕ → List ℕ → Answer Spot → List ℕ
found_line m defaults (accepted s) =
    when eqb s.holder 100 then shown "defaults " (octets defaults s.start s.len)
    else shown "message " (octets m s.start s.len)
found_line m defaults (refused n at) = fault_line n at

-- the line of a row of the family, by what its fields say; find is its last
unfoldable pub codec_line_lem : ℕ → List FieldSays → List ℕ
codec_line_lem which gs =
    when eqb which SHAPE then shape_line (shape_of (octet_at_lem gs 0))
    else when eqb which READ then read_line (octets_at gs 0) (read_of (octets_at gs 0))
    else when eqb which WRITE
    then octets_line (write_of (number_at gs 0) (number_at gs 1) (octets_at gs 2) (octets_at gs 3) (octets_at gs 4) (octets_at gs 5) (lent (number_at gs 6)))
    else when eqb which COMPACT then compact_line (compact_of (octets_at gs 0) (lent (number_at gs 1)))
    else found_line (octets_at gs 1) (octets_at gs 2)
    (locate_of (octets_at gs 1) (octets_at gs 2) (number_at gs 0))
