-- The calls with the totals of busy circuits kept: 64 totals, one for each 64 circuits.
use Rattle.std.specs.Prelude.{ℕ, Bool, List, eqb, length}
use Rattle.octets.specs.Choice.{when◌then◌else◌}
use Rattle.octets.specs.Answer.{Answer, accepted, refused}
use Rattle.totals.specs.Blocks.{recounted}
use Rattle.asks.specs.Asks.{ask_of}
use Rattle.rights.specs.Tables.{Tables}
use Rattle.hub.specs.Acts.{After, act_of}
use Rattle.hub.specs.Desk.{desk_of}
use Rattle.hub.specs.Deeds.{deed, with_circuits}
use Rattle.hub.specs.declared.Handled.{Handled}

-- the answer, and what the states, the totals and the answer buffer hold afterwards
pub record BoardAfter : Type 0 where
  pub answer : Answer ℕ
  pub states : List ℕ
  pub totals : List ℕ
  pub buffer : List ℕ

-- the four together
abbrev pub board_after : Answer ℕ → List ℕ → List ℕ → List ℕ → BoardAfter
board_after answer states totals buffer =
    record { answer = answer; states = states; totals = totals; buffer = buffer }

-- R56. the totals after a call, by the rows as they are then: where it is accepted each block that
-- holds a named circuit is counted anew, and every other total stays
abbrev pub totals_after : List ℕ → Answer Handled → List ℕ → List ℕ
totals_after rows (accepted d) totals = recounted rows d.first d.last totals
totals_after rows (refused n at) totals = totals

-- a call that is done on the rows, with the totals kept; 16 where there are not 64 of them
abbrev pub keeping : List ℕ → List ℕ → List ℕ → (Answer ℕ → Answer Handled) → After → BoardAfter
keeping states totals buffer named r =
    when eqb (length totals) 64 then board_after r.answer r.states (totals_after r.states (named r.answer) totals) r.buffer
    else board_after (refused 16 0) states totals buffer

-- a message from a sender: it names circuits m to m+r
unfoldable pub board_of : Tables → List ℕ → ℕ → List ℕ → List ℕ → BoardAfter
board_of T totals sender m buffer =
    keeping T.states totals buffer (with_circuits (ask_of m)) (act_of T sender m buffer)

-- a desk call names its circuit
abbrev pub alone : ℕ → Answer ℕ → Answer Handled
alone circuit (accepted n) = accepted (deed n circuit circuit)
alone circuit (refused n at) = refused n at

-- a desk call
unfoldable pub desk_board_of : List ℕ → List ℕ → ℕ → Bool → List ℕ → BoardAfter
desk_board_of states totals circuit set buffer =
    keeping states totals buffer (alone circuit) (desk_of states circuit set buffer)
