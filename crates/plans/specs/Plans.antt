-- What the messages of a plan do: of which kind they are, and which
-- circuits they mark. No algorithm.
use Rattle.std.specs.Prelude.{ℕ, ◌+◌, ◌-◌, ◌≤◌, ◌<◌, ◌≡◌, Bool, true, false, not, List, [], ◌∷◌, map, ◌⊎◌, leb, eqb, length}
use Rattle.octets.specs.Octet.{octet}
use Rattle.octets.specs.Choice.{when◌then◌else◌}
use Rattle.octets.specs.Answer.{Answer, accepted}
use Rattle.layout.specs.Container.{bit}
use Rattle.rows.specs.declared.Act.{Act}
use Rattle.rows.specs.declared.Act.TheVariants.{Seize, Release, Reset, Block, Unblock, ResetGroup, BlockGroup, UnblockGroup, Query}
use Rattle.asks.specs.declared.Ask.{Ask}
use Rattle.asks.specs.Asks.{ask_of, mark_of}
use Rattle.rights.specs.Names.{Named}
use Rattle.plans.specs.Frames.{framed, Each}

-- whether a circuit is ticked: its octet is not 0
abbrev pub ticked : List ℕ → ℕ → Bool
ticked ticks c = not (eqb (octet ticks c) 0)

-- R64. whether an act, with its kind of block, is one for a plan of that kind: CGB of that kind,
-- and BLO too for maintenance
unfoldable pub planned : ℕ → Act → ℕ → Bool
planned kind Seize block = false
planned kind Release block = false
planned kind Reset block = false
planned kind Block block = eqb kind 0
planned kind Unblock block = false
planned kind ResetGroup block = false
planned kind BlockGroup block = eqb block kind
planned kind UnblockGroup block = false
planned kind Query block = false

-- the same of what a message asks
abbrev pub fits_kind : ℕ → Ask → Bool
fits_kind kind a = planned kind a.act a.block

-- whether a message marks the circuit: it names it, and its status bit is set; BLO has no status,
-- and marks the circuit that it names
unfoldable pub marks_of : List ℕ → Ask → ℕ → Bool
marks_of m a c =
    when leb a.circuit c
    then (when leb c (a.circuit + a.range) then mark_of m a.status (c - a.circuit)
    else false)
    else false

-- a message, with what it asks
pub record Step : Type 0 where
  pub message : List ℕ
  pub ask : Ask

-- the messages alone
abbrev pub messages : List Step → List (List ℕ)
messages = map (λ s. s.message)

-- how many of the messages mark circuit c
unfoldable pub times : List Step → ℕ → ℕ
times [] c = 0
times (s ∷ ss) c = bit (marks_of s.message s.ask c) + times ss c

-- a message that a judge takes, of the asked kind, whose length is an octet
pub record JudgedStep (judge : List ℕ → Answer Ask) (kind : ℕ) (s : Step) : Type 0 where
  pub granted : judge s.message ≡ accepted s.ask
  pub fit : fits_kind kind s.ask ≡ true
  pub short : length s.message ≤ 255

-- a plan whose messages a judge takes one by one, and whose marks add up
pub record JudgedPlan (judge : List ℕ → Answer Ask) (ticks : List ℕ) (kind : ℕ) (plan : List ℕ) : Type 0 where
  pub sized : length ticks ≡ 4096
  pub kinds : kind ≤ 1
  pub steps : List Step
  pub frames : plan ≡ framed (messages steps)
  pub each : Each (JudgedStep judge kind) steps
  pub once : (c : ℕ) → c ≤ 4095 → times steps c ≡ bit (ticked ticks c)

-- what is used of the hub. `can` says, for the asked kind, which circuits the
-- sender may block so, their rows being legal
pub record Grants (judge : List ℕ → Answer Ask) (kind : ℕ) (can : ℕ → Bool) : Type 0 where
  -- what is accepted is what the message asks, and each named circuit may be blocked
  pub asks : (m : List ℕ) (a : Ask) → judge m ≡ accepted a → ask_of m ≡ accepted a
  pub rights : (m : List ℕ) (a : Ask) → judge m ≡ accepted a → fits_kind kind a ≡ true → (c : ℕ)
      → Named a c → can c ≡ true
  -- and that is enough
  pub takes : (m : List ℕ) (a : Ask) → ask_of m ≡ accepted a → fits_kind kind a ≡ true
      → ((c : ℕ) → Named a c → can c ≡ true) → judge m ≡ accepted a

-- a circuit that a plan of that kind can mark: for hardware a neighbour is named with it
abbrev pub Plannable : ℕ → (ℕ → Bool) → ℕ → Type 0
Plannable kind can c =
    (can c ≡ true)
    × ((kind ≡ 0) ⊎ (((c < 4095) × (can (c + 1) ≡ true)) ⊎ ((1 ≤ c) × (can (c - 1) ≡ true))))
