-- All of the hub that a replay uses: the rows at first, what one message does to them, whether it
-- was accepted, and a circuit's busy bit.
-- A change of the hub's call changes this page and `hear`, and nothing else of a replay.
use Rattle.std.specs.Prelude.{ℕ, ◌%◌, List, length, replicate, Bool, true, false}
use Rattle.octets.specs.Octet.{octet}
use Rattle.octets.specs.Answer.{Answer, accepted, refused}
use Rattle.rights.specs.Tables.{tables}
use Rattle.hub.specs.Acts.{After, act_of}

-- what the hub's calls change
abbrev pub Rows : Type 0
Rows = List ℕ

-- R62. state 0 everywhere
unfoldable pub at_first_lem : Rows
at_first_lem = replicate 4096 0

-- 1 where the circuit is busy
abbrev pub busy_at_lem : Rows → ℕ → ℕ
busy_at_lem rows c = octet rows c % 2

-- the rows after a message, and whether it was accepted
pub record Heard : Type 0 where
  pub rows : Rows
  pub taken : Bool

-- both
abbrev pub heard_as : Rows → Bool → Heard
heard_as rows taken = record { rows = rows; taken = taken }

-- a value, and no refusal
abbrev pub is_accepted : {A : Type 0} → Answer A → Bool
is_accepted (accepted a) = true
is_accepted (refused n at) = false

-- of all that a call leaves, the rows and whether it was accepted
abbrev pub heard_by : After → Heard
heard_by r = heard_as r.states (is_accepted r.answer)

-- a book names no helpers: a table as long as the owners', with 0 for each circuit
unfoldable pub unhelped : List ℕ → List ℕ
unhelped owners = replicate (length owners) 0

-- by the circuit rules, with nobody's help and an answer buffer of 268 octets
unfoldable pub heard_of : List ℕ → Rows → ℕ → List ℕ → Heard
heard_of owners rows sender m =
    heard_by (act_of (tables rows owners (unhelped owners)) sender m (replicate 268 0))
