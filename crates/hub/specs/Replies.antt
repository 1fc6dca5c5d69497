-- The answer to what a message asks, from the rows as they were before it.
use Rattle.std.specs.Prelude.{ℕ, ◌+◌, List, [], eqb}
use Rattle.octets.specs.Octet.{octets}
use Rattle.octets.specs.Choice.{when◌then◌else◌}
use Rattle.asks.specs.declared.Ask.{Ask}
use Rattle.asks.specs.Asks.{width}
use Rattle.replies.specs.Replies.{answer_to}

-- the status octets of the message, none where each named circuit is marked without one
unfoldable pub status_in : List ℕ → ℕ → ℕ → List ℕ
status_in m status range = when eqb status 0 then [] else octets m status (width range)

-- what answers what a message asks, from the rows of circuits m to m+r as they are
unfoldable pub reply_of : List ℕ → List ℕ → Ask → List ℕ
reply_of states m a =
    answer_to a.act a.circuit a.range a.block (octets states a.circuit (a.range + 1)) (status_in m a.status a.range)
