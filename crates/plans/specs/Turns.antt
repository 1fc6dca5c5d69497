-- What a good plan is: the hub accepts its messages in turn, each on the tables that those before
-- it left, and their marks add up. No algorithm.
-- The totals of busy circuits change no answer of the hub (crate `board` proves it), so the three
-- tables are all that matters.
use Rattle.std.specs.Prelude.{ℕ, ◌≤◌, ◌≡◌, Bool, true, false, List, [], ◌∷◌, eqb, length, replicate}
use Rattle.octets.specs.Octet.{octet}
use Rattle.octets.specs.Choice.{when◌then◌else◌}
use Rattle.octets.specs.Answer.{accepted}
use Rattle.layout.specs.Container.{bit}
use Rattle.rows.specs.Rows.{is_legal}
use Rattle.asks.specs.Asks.{ask_of}
use Rattle.rights.specs.Tables.{Tables, tables, sized}
use Rattle.rights.specs.Rights.{is_mine, has_right}
use Rattle.hub.specs.Acts.{judged_of, act_of}
use Rattle.plans.specs.Frames.{framed}
use Rattle.plans.specs.Plans.{ticked, fits_kind, Step, times, messages}
use Rattle.plans.specs.Check.{check_of}

-- an answer room of 268 octets; what it holds is not looked at
abbrev pub room : List ℕ
room = replicate 268 0

-- the hub, on these tables, accepts the message; it asks what is said, is of the
-- asked kind, and its length is an octet
pub record AcceptedStep (T : Tables) (sender kind : ℕ) (s : Step) : Type 0 where
  pub count : ℕ
  pub answered : (act_of T sender s.message room).answer ≡ accepted count
  pub asks : ask_of s.message ≡ accepted s.ask
  pub fit : fits_kind kind s.ask ≡ true
  pub short : length s.message ≤ 255

-- the tables that a message leaves
abbrev pub tables_after : Tables → ℕ → List ℕ → Tables
tables_after T sender m = tables (act_of T sender m room).states T.owners T.helpers

-- in turn: each on the tables that those before it left
abbrev pub InTurn : Tables → ℕ → ℕ → List Step → Type 0
InTurn T sender kind [] = Unit {0}
InTurn T sender kind (s ∷ ss) =
    AcceptedStep T sender kind s × InTurn (tables_after T sender s.message) sender kind ss

-- R65. a good plan: messages one after the other, each after one length octet, which the hub
-- accepts in turn; each ticked circuit is marked once, and no other
pub record GoodPlan (T : Tables) (ticks : List ℕ) (sender kind : ℕ) (plan : List ℕ) : Type 0 where
  pub states-sized : length T.states ≡ 4096
  pub owners-sized : length T.owners ≡ 4096
  pub helpers-sized : length T.helpers ≡ 4096
  pub sized : length ticks ≡ 4096
  pub kinds : kind ≤ 1
  pub steps : List Step
  pub frames : plan ≡ framed (messages steps)
  pub each : InTurn T sender kind steps
  pub once : (c : ℕ) → c ≤ 4095 → times steps c ≡ bit (ticked ticks c)

-- every row is legal, as past 20
abbrev pub AllLegal : List ℕ → Type 0
AllLegal states = (c : ℕ) → c ≤ 4095 → is_legal (octet states c) ≡ true

-- which circuits a plan of that kind may name: for maintenance those owned or
-- helped, for hardware those owned
unfoldable pub may_block_lem : ℕ → List ℕ → List ℕ → ℕ → ℕ → Bool
may_block_lem kind owners helpers sender c = when eqb kind 0 then has_right owners helpers sender c else is_mine owners sender c

-- the check on the hub's tables
unfoldable pub check_at : Tables → List ℕ → ℕ → ℕ → List ℕ → Bool
check_at T ticks sender kind plan =
    when sized T then check_of (judged_of T sender) ticks kind plan else false
