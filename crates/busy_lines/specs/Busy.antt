-- What the requests about how many circuits are busy do (busy, totals, total, rebuild): the totals
-- afterwards, and the answer's line. None of them changes a row.
use Rattle.std.specs.Prelude.{ℕ, List, ◌++◌, eqb, set}
use Rattle.octets.specs.Choice.{when◌then◌else◌}
use Rattle.octets.specs.Answer.{Answer, accepted, refused}
use Rattle.totals.specs.declared.Count.{Count}
use Rattle.totals.specs.Blocks.{rebuild_of}
use Rattle.totals.specs.Question.{busy_between_lem}
use Rattle.words.specs.Said.{said}
use Rattle.printing.specs.Sheet.{Sheet, pour}
use Rattle.fields.specs.Kinds.{FieldSays}
use Rattle.forms.specs.Rows.{BUSY, TOTALS, TOTAL}
use Rattle.requests.specs.Words.{number_at, octet_at_lem}
use Rattle.lines.specs.Lines.{counted, shown, refusal}

-- count 12 looked 70
abbrev pub count_line : Count → List ℕ
count_line c = counted "count " c.count ++ counted " looked " c.looked

-- the same of what a question answers, or the refusal
unfoldable pub busy_line : Answer Count → List ℕ
busy_line (accepted c) = count_line c
busy_line (refused n at) = refusal n

-- ok, or the refusal
unfoldable pub rebuild_line : Answer ℕ → List ℕ
rebuild_line (accepted n) = said "ok"
rebuild_line (refused n at) = refusal n

-- the totals afterwards, and the answer's line
pub record BusyAfter : Type 0 where
  pub totals : List ℕ
  pub line : List ℕ

-- both
abbrev pub busy_after : List ℕ → List ℕ → BusyAfter
busy_after totals line = record { totals = totals; line = line }

-- the totals counted anew, or the refusal
abbrev pub rebuilt : List ℕ → List ℕ → BusyAfter
rebuilt states totals =
    busy_after (rebuild_of states totals).left (rebuild_line (rebuild_of states totals).answer)

-- the four requests, by what their fields say: busy and totals change nothing, total overwrites
-- one, right or wrong, and rebuild, the family's last, counts all anew
unfoldable pub busy_done : List ℕ → List ℕ → ℕ → List FieldSays → BusyAfter
busy_done states totals which gs =
    when eqb which BUSY
    then busy_after totals (busy_line (busy_between_lem states totals (number_at gs 0) (number_at gs 1)))
    else when eqb which TOTALS then busy_after totals (shown "totals " totals)
    else when eqb which TOTAL then busy_after (set totals (number_at gs 0) (octet_at_lem gs 1)) (said "ok")
    else rebuilt states totals

-- the totals and the lent sheet afterwards
pub record BusyLeft : Type 0 where
  pub totals : List ℕ
  pub sheet : Sheet

-- both
abbrev pub busy_left : List ℕ → Sheet → BusyLeft
busy_left totals sheet = record { totals = totals; sheet = sheet }

-- the answer's line on the sheet
abbrev pub busy_left_by : BusyAfter → Sheet → BusyLeft
busy_left_by a sheet = busy_left a.totals (pour sheet a.line)
