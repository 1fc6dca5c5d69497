-- What a message asks, from the message alone: which act, which circuits, which kind of block, and
-- where the status stands.
-- Refused with 17, 14, 18, in that order.
use Rattle.std.specs.Prelude.{ℕ, ◌+◌, ◌/◌, ◌%◌, ◌^◌, ◌≤◌, ◌<◌, ◌≡◌, ◌⊎◌, length, Bool, true, false, List, ltb, eqb}
use Rattle.octets.specs.Octet.{octet, octets}
use Rattle.octets.specs.Choice.{when◌then◌else◌}
use Rattle.octets.specs.Answer.{Answer, accepted, refused, ◌then◌}
use Rattle.parts.specs.declared.Span.{Span}
use Rattle.parts.specs.Spans.{span_size}
use Rattle.isup.specs.declared.Message.{Message}
use Rattle.isup.specs.Limits.{last_circuit}
use Rattle.isup.specs.Read.{read_of}
use Rattle.marks.specs.Marks.{marks_in_lem}
use Rattle.rows.specs.declared.Act.{Act}
use Rattle.rows.specs.declared.Act.TheVariants.{Seize, Release, Reset, Block, Unblock, ResetGroup, BlockGroup, UnblockGroup, Query}
use Rattle.asks.specs.declared.Ask.{Ask}
use Rattle.asks.specs.Types.{act_for}

-- the range is the first octet of the contents
abbrev pub range_in : List ℕ → Span → ℕ
range_in m contents = octet m contents.from

-- the indicator is the fixed octet; its low two bits say the kind, 0 for maintenance and 1 for
-- hardware, the other bits are spare
abbrev pub block_kind : ℕ → ℕ
block_kind indicator = indicator % 4

-- the status of range r has r/8+1 octets (whole division), a bit for each of the r+1 circuits
abbrev pub width : ℕ → ℕ
width r = r / 8 + 1

-- GRS and CQM break their rule unless their contents are exactly the range's octet, and the range
-- is from the least to 31: 1 is the least of GRS, 0 of CQM
unfoldable pub broken_range : ℕ → List ℕ → Span → Bool
broken_range least m contents =
    when eqb (span_size contents) 1 then (when ltb (range_in m contents) least then true else ltb 31 (range_in m contents))
    else true

-- the status octets of CGB and CGU come after the range
abbrev pub group_status : List ℕ → Span → List ℕ
group_status m contents = octets m (contents.from + 1) (width (range_in m contents))

-- CGB and CGU break theirs unless the kind is 0 or 1, the range 1 to 255, and after it come exactly
-- r/8+1 status octets, which mark 32 circuits at the most
unfoldable pub broken_group : List ℕ → ℕ → Span → Bool
broken_group m indicator contents =
    when ltb 1 (block_kind indicator) then true
    else when eqb (span_size contents) 0 then true
    else when eqb (range_in m contents) 0 then true
    else when eqb (span_size contents) (1 + width (range_in m contents)) then ltb 32 (marks_in_lem (range_in m contents) (group_status m contents))
    else true

-- a message that names one circuit: it is marked, and a block is the one for maintenance
abbrev pub one_ask : Act → ℕ → Ask
one_ask act circuit = record { act = act; circuit = circuit; range = 0; block = 0; status = 0 }

-- GRS and CQM name circuits m to m+r, each of them marked
abbrev pub range_ask : List ℕ → Act → ℕ → Span → Ask
range_ask m act circuit contents =
    record { act = act; circuit = circuit; range = range_in m contents; block = 0; status = 0 }

-- CGB and CGU name circuits m to m+r; the status, after the range, marks some of them
abbrev pub group_ask : List ℕ → Act → ℕ → ℕ → Span → Ask
group_ask m act circuit indicator contents =
    record { act = act; circuit = circuit; range = range_in m contents; block = block_kind indicator; status = contents.from + 1 }

-- the indicator of a message that reads
abbrev pub indicator_in : List ℕ → Message → ℕ
indicator_in m x = octet m x.parts.fixed.from

-- whether typed contents break their rule; the types that name one circuit
-- have none that the hub looks at
abbrev pub broken : Act → List ℕ → Message → Bool
broken Seize m x = false
broken Release m x = false
broken Reset m x = false
broken Block m x = false
broken Unblock m x = false
broken ResetGroup m x = broken_range 1 m x.parts.first
broken BlockGroup m x = broken_group m (indicator_in m x) x.parts.first
broken UnblockGroup m x = broken_group m (indicator_in m x) x.parts.first
broken Query m x = broken_range 0 m x.parts.first

-- what a message that reads asks, where its type asks for that act
abbrev pub ask_in_lem : Act → List ℕ → Message → Ask
ask_in_lem Seize m x = one_ask Seize x.circuit
ask_in_lem Release m x = one_ask Release x.circuit
ask_in_lem Reset m x = one_ask Reset x.circuit
ask_in_lem Block m x = one_ask Block x.circuit
ask_in_lem Unblock m x = one_ask Unblock x.circuit
ask_in_lem ResetGroup m x = range_ask m ResetGroup x.circuit x.parts.first
ask_in_lem BlockGroup m x = group_ask m BlockGroup x.circuit (indicator_in m x) x.parts.first
ask_in_lem UnblockGroup m x = group_ask m UnblockGroup x.circuit (indicator_in m x) x.parts.first
ask_in_lem Query m x = range_ask m Query x.circuit x.parts.first

-- that a message that reads asks this
abbrev pub IsAsked : List ℕ → Message → Ask → Type 0
IsAsked m x a = (act : Act) × (act_for x.kind ≡ accepted act) × (ask_in_lem act m x ≡ a)

-- 18 where the group passes the last circuit
abbrev pub reaching : Ask → Answer Ask
reaching a = when ltb last_circuit (a.circuit + a.range) then refused 18 0 else accepted a

-- 14 where the contents break their rule, then 18
abbrev pub unbroken : Bool → Ask → Answer Ask
unbroken b a = when b then refused 14 0 else reaching a

-- what is asked for by that act
abbrev pub asked_for : List ℕ → Message → Act → Answer Ask
asked_for m x act = unbroken (broken act m x) (ask_in_lem act m x)

-- 17 for a type that the hub does not act on, then 14, then 18
unfoldable pub asked_in : List ℕ → Message → Answer Ask
asked_in m x = act_for x.kind then asked_for m x

-- what a message asks, or why it asks nothing: the reader's numbers, 17, 14, 18
unfoldable pub ask_of : List ℕ → Answer Ask
ask_of m = read_of m then asked_in m

-- R40. status bit n, low bit first, of the octets from `status` on
unfoldable pub bit_at : List ℕ → ℕ → ℕ → Bool
bit_at m status n = eqb (octet m (status + n / 8) / 2 ^ (n % 8) % 2) 1

-- whether circuit m+n is marked: by its status bit where there is a status,
-- else as every named circuit is
unfoldable pub mark_of : List ℕ → ℕ → ℕ → Bool
mark_of m status n = when eqb status 0 then true else bit_at m status n

-- what is known of an ask that was not refused: the group ends at the last circuit at the latest,
-- CQM's has 32 circuits at the most, and the status is in the message
pub record Sound (m : List ℕ) (a : Ask) : Type 0 where
  pub last : a.circuit + a.range ≤ last_circuit
  pub few : a.range ≤ 255
  pub fewer : a.act ≡ Query → a.range ≤ 31
  pub kinds : a.block ≤ 1
  pub there : (a.status ≡ 0) ⊎ (a.status + a.range / 8 < length m)
