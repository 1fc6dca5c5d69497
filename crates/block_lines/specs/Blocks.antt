-- What the requests block and unblock do: the states and the totals
-- afterwards, and the answer's line.
use Rattle.std.specs.Prelude.{ℕ, List, eqb, take}
use Rattle.octets.specs.Answer.{Answer, accepted, refused}
use Rattle.board.specs.Board.{BoardAfter, desk_board_of}
use Rattle.printing.specs.Sheet.{Sheet, pour}
use Rattle.fields.specs.Kinds.{FieldSays}
use Rattle.forms.specs.Rows.{BLOCK}
use Rattle.requests.specs.Words.{number_at}
use Rattle.lines.specs.Lines.{shown, refusal, lent}

-- answer 050013, or the refusal
unfoldable pub notice_line : Answer ℕ → List ℕ → List ℕ
notice_line (accepted n) buffer = shown "answer " (take n buffer)
notice_line (refused n at) buffer = refusal n

-- what the desk call does with the circuit and the room that the fields say: `block` sets, and
-- `unblock`, the family's other request, clears
unfoldable pub block_done : List ℕ → List ℕ → ℕ → List FieldSays → BoardAfter
block_done states totals which gs =
    desk_board_of states totals (number_at gs 0) (eqb which BLOCK) (lent (number_at gs 1))

-- the states, the totals and the lent sheet afterwards
pub record Blocked : Type 0 where
  pub states : List ℕ
  pub totals : List ℕ
  pub sheet : Sheet

-- the three together
abbrev pub blocked : List ℕ → List ℕ → Sheet → Blocked
blocked states totals sheet = record { states = states; totals = totals; sheet = sheet }

-- the answer's line on the sheet
abbrev pub blocked_by : BoardAfter → Sheet → Blocked
blocked_by a sheet =
    blocked a.states a.totals (pour sheet (notice_line a.answer a.buffer))
