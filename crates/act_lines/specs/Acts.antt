-- What the hub's request (act) does: the tables afterwards, and the answer's line.
use Rattle.std.specs.Prelude.{ℕ, List, take}
use Rattle.octets.specs.Answer.{Answer, accepted, refused}
use Rattle.board.specs.Board.{BoardAfter, board_of}
use Rattle.fields.specs.Kinds.{FieldSays}
use Rattle.requests.specs.Words.{number_at, octets_at}
use Rattle.lines.specs.Lines.{shown, fault_line, lent}
use Rattle.table_lines.specs.Tables.{DeskTables, desk_tables, Turn, turn}

-- answer 05002901020300, or answer - where there are no answer octets; or the
-- refusal with the reader's octet
unfoldable pub reply_line : Answer ℕ → List ℕ → List ℕ
reply_line (accepted n) buffer = shown "answer " (take n buffer)
reply_line (refused n at) buffer = fault_line n at

-- the same of what the hub did
abbrev pub act_line : BoardAfter → List ℕ
act_line a = reply_line a.answer a.buffer

-- what the hub does with the message that the fields of an act say, and the room
abbrev pub acts_of : DeskTables → List FieldSays → BoardAfter
acts_of D gs = board_of D.tables D.totals (number_at gs 0) (octets_at gs 1) (lent (number_at gs 2))

-- the hub's request: act
unfoldable pub act_turn_lem : DeskTables → List FieldSays → Turn
act_turn_lem D gs =
    turn (desk_tables (acts_of D gs).states D.tables.owners D.tables.helpers (acts_of D gs).totals) (act_line (acts_of D gs))
