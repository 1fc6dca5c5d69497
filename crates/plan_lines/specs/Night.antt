-- What the requests of a maintenance night do (tick, plan, check): the ticks afterwards, and the
-- answer's line. None of them changes another table.
use Rattle.std.specs.Prelude.{ℕ, Bool, true, false, List, eqb, take, replicate}
use Rattle.octets.specs.Choice.{when◌then◌else◌}
use Rattle.octets.specs.Applied.{spread}
use Rattle.rights.specs.Tables.{Tables}
use Rattle.plans.specs.Turns.{check_at}
use Rattle.planning.specs.Outcome.{planned_of}
use Rattle.words.specs.Said.{said}
use Rattle.printing.specs.Sheet.{Sheet, pour}
use Rattle.fields.specs.Kinds.{FieldSays}
use Rattle.fields.specs.Letters.{plan_most}
use Rattle.forms.specs.Rows.{TICK, PLAN}
use Rattle.requests.specs.Words.{number_at, octet_at_lem, octets_at}
use Rattle.lines.specs.Lines.{octets_line}

-- as many octets as a plan may have, all 0
unfoldable pub plan_blank : List ℕ
plan_blank = replicate plan_most 0

-- a buffer of so many octets that is lent to the planner
abbrev pub plan_lent : ℕ → List ℕ
plan_lent room = take room plan_blank

-- octets and the plan, octets - for the empty one; or the refusal
abbrev pub plan_line : Tables → List ℕ → ℕ → ℕ → ℕ → List ℕ
plan_line T ticks sender kind room = octets_line (planned_of T ticks sender kind (plan_lent room))

-- yes or no
unfoldable pub checked_line : Bool → List ℕ
checked_line true = said "yes"
checked_line false = said "no"

-- the ticks afterwards, and the answer's line
pub record NightAfter : Type 0 where
  pub ticks : List ℕ
  pub line : List ℕ

-- both
abbrev pub night_after : List ℕ → List ℕ → NightAfter
night_after ticks line = record { ticks = ticks; line = line }

-- the three requests, by what their fields say: tick overwrites the ticks from the first circuit to
-- the last; plan, and check, the family's last, change nothing
unfoldable pub night_done : Tables → List ℕ → ℕ → List FieldSays → NightAfter
night_done T ticks which gs =
    when eqb which TICK then night_after (spread ticks (number_at gs 0) (number_at gs 1) (octet_at_lem gs 2)) (said "ok")
    else when eqb which PLAN then night_after ticks (plan_line T ticks (number_at gs 0) (number_at gs 1) (number_at gs 2))
    else night_after ticks (checked_line (check_at T ticks (number_at gs 0) (number_at gs 1) (octets_at gs 2)))

-- the ticks and the lent sheet afterwards
pub record NightLeft : Type 0 where
  pub ticks : List ℕ
  pub sheet : Sheet

-- both
abbrev pub night_left : List ℕ → Sheet → NightLeft
night_left ticks sheet = record { ticks = ticks; sheet = sheet }

-- the answer's line on the sheet
abbrev pub night_left_by : NightAfter → Sheet → NightLeft
night_left_by a sheet = night_left a.ticks (pour sheet a.line)
