-- The lines of the requests for called party numbers: number, dial.
use Rattle.std.specs.Prelude.{ℕ, List, ◌++◌, eqb, take}
use Rattle.octets.specs.Choice.{when◌then◌else◌}
use Rattle.octets.specs.Answer.{Answer, accepted, refused}
use Rattle.octets.specs.Filled.{Done}
use Rattle.number.specs.declared.Number.{Number}
use Rattle.number.specs.Read.{read_number_of}
use Rattle.dialling.specs.Write.{write_number_of}
use Rattle.fields.specs.Kinds.{FieldSays}
use Rattle.forms.specs.Rows.{NUMBER}
use Rattle.requests.specs.Words.{number_at, octets_at}
use Rattle.lines.specs.Lines.{counted, shown, refusal, octets_line, lent}

-- nature 3 plan 1 internal 0 signals 010203
unfoldable pub signals_line : Answer Number → List ℕ → List ℕ
signals_line (accepted x) buffer =
    counted "nature " x.nature
    ++ counted " plan " x.plan
    ++ counted " internal " x.internal
    ++ shown " signals " (take x.count buffer)
signals_line (refused n at) buffer = refusal n

-- the same of what was done with the buffer
abbrev pub number_line : Done Number → List ℕ
number_line d = signals_line d.answer d.left

-- the line of a row of the family, by what its fields say; dial is its last
unfoldable pub numbers_line_lem : ℕ → List FieldSays → List ℕ
numbers_line_lem which gs =
    when eqb which NUMBER then number_line (read_number_of (octets_at gs 0) (lent (number_at gs 1)))
    else octets_line (write_number_of (number_at gs 0) (number_at gs 1) (number_at gs 2) (octets_at gs 3) (lent (number_at gs 4)))
