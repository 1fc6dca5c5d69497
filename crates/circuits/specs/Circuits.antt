-- The tables of circuits at the boundary: what a call gives with the totals kept.
use Rattle.std.specs.Prelude.{ℕ, List}
use Rattle.board.specs.Board.{BoardAfter}
use Rattle.telling.specs.Telling.{packed}

-- a number, and what the states, the totals and the answer buffer hold afterwards
pub record Called : Type 0 where
  pub value : ℕ
  pub states : List ℕ
  pub totals : List ℕ
  pub buffer : List ℕ

-- the four together
abbrev pub called : ℕ → List ℕ → List ℕ → List ℕ → Called
called value states totals buffer =
    record { value = value; states = states; totals = totals; buffer = buffer }

-- what a call gives: its answer as one number, and the three lists
abbrev pub called_by : BoardAfter → Called
called_by c = called (packed c.answer) c.states c.totals c.buffer
