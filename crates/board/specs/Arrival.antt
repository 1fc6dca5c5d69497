-- A list of calls on one table of rows and one of totals, over owners and
-- helpers that do not change.
use Rattle.std.specs.Prelude.{ℕ, List, [], ◌∷◌, length}
use Rattle.octets.specs.Octet.{octet}
use Rattle.octets.specs.Answer.{Answer}
use Rattle.asks.specs.Asks.{ask_of}
use Rattle.arrival.specs.Calls.{Calls}
use Rattle.rights.specs.Tables.{tables}
use Rattle.hub.specs.Deeds.{with_circuits}
use Rattle.hub.specs.Arrival.{Event, heard, ours, Call, party_of, Reply, holds_of}
use Rattle.hub.specs.declared.Handled.{Handled}
use Rattle.board.specs.Board.{BoardAfter, alone, board_of, desk_board_of}

-- the rows and the totals
pub record Standings : Type 0 where
  pub rows : List ℕ
  pub totals : List ℕ

-- the circuits that a call names, with its answer
abbrev pub named_by : Event → Answer ℕ → Answer Handled
named_by (heard sender message) = with_circuits (ask_of message)
named_by (ours circuit set) = alone circuit

-- what is done, each by the definition that `act` and `desk_call` are proved to meet
abbrev pub kept_by : List ℕ → List ℕ → Event → List ℕ → Standings → BoardAfter
kept_by owners helpers (heard sender message) buffer s =
    board_of (tables s.rows owners helpers) s.totals sender message buffer
kept_by owners helpers (ours circuit set) buffer s =
    desk_board_of s.rows s.totals circuit set buffer

-- the answer and the buffer of it
abbrev pub replied_by : BoardAfter → Reply
replied_by r = record { answer = r.answer; buffer = r.buffer }

-- the rows and the totals that it leaves
abbrev pub left_in : BoardAfter → Standings
left_in r = record { rows = r.states; totals = r.totals }

-- the hub with its totals
abbrev pub board : List ℕ → List ℕ → Calls
board owners helpers =
    record {
      State = Standings;
      Row = ℕ;
      Call = Call;
      Reply = Reply;
      sizes = λ s. length s.rows ∷ length s.totals ∷ [];
      row = λ s i. octet s.rows i;
      party = λ c. party_of owners c.asks;
      holds = holds_of owners helpers;
      answer = λ c s. replied_by (kept_by owners helpers c.asks c.buffer s);
      after = λ c s. left_in (kept_by owners helpers c.asks c.buffer s);
    }
