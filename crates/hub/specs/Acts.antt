-- The hub, all of it: the answer, the states and the answer buffer afterwards, as one value.
-- Order: 16, the reader's, 17, 14, 18, 19, 22, 20, 21, 13; all of them before anything is stored.
use Rattle.std.specs.Prelude.{ℕ, List, ltb, length}
use Rattle.octets.specs.Choice.{when◌then◌else◌}
use Rattle.octets.specs.Answer.{Answer, accepted, refused, ◌then◌}
use Rattle.octets.specs.Filled.{filled}
use Rattle.asks.specs.declared.Ask.{Ask}
use Rattle.asks.specs.Asks.{ask_of}
use Rattle.rights.specs.Tables.{Tables, sized}
use Rattle.rights.specs.Permits.{permitted_of}
use Rattle.hub.specs.Rows.{rows_after}
use Rattle.hub.specs.Replies.{reply_of}

-- 13 where the answer has no room
abbrev pub roomed : Tables → List ℕ → ℕ → Ask → Answer Ask
roomed T m room a = when ltb room (length (reply_of T.states m a)) then refused 13 0 else accepted a

-- 19, 22, 20, 21, then 13
unfoldable pub allowed_of : Tables → ℕ → List ℕ → ℕ → Ask → Answer Ask
allowed_of T sender m room a = permitted_of T sender a then roomed T m room

-- what a call asks and is permitted, before its answer is looked at, or its number
unfoldable pub judged_of : Tables → ℕ → List ℕ → Answer Ask
judged_of T sender m = when sized T then (ask_of m then permitted_of T sender) else refused 16 0

-- what a call asks and is granted, or its number
unfoldable pub grant_of : Tables → ℕ → List ℕ → ℕ → Answer Ask
grant_of T sender m room = when sized T then (ask_of m then allowed_of T sender m room) else refused 16 0

-- the answer, and what the states and the answer buffer hold afterwards
pub record After : Type 0 where
  pub answer : Answer ℕ
  pub states : List ℕ
  pub buffer : List ℕ

-- the three together
abbrev pub after : Answer ℕ → List ℕ → List ℕ → After
after answer states buffer = record { answer = answer; states = states; buffer = buffer }

-- what is granted is carried out: the answer's octets, from the rows as they were, fill the
-- buffer's front and their count is given, and the named rows change. A refusal keeps both
abbrev pub carried_out : Tables → List ℕ → List ℕ → Answer Ask → After
carried_out T m buffer (accepted a) =
    after (accepted (length (reply_of T.states m a))) (rows_after m a T.states)
    (filled (reply_of T.states m a) buffer)
carried_out T m buffer (refused n at) = after (refused n at) T.states buffer

-- a call; a refusal has the reader's octet, or 0
unfoldable pub act_of : Tables → ℕ → List ℕ → List ℕ → After
act_of T sender m buffer = carried_out T m buffer (grant_of T sender m (length buffer))
