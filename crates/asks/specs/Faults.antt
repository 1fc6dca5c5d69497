-- What a message can be refused for without looking at the tables: the reader's numbers, 17, 14,
-- 18. Each is in the words of its rule, in the order of checking.
use Rattle.std.specs.Prelude.{ℕ, ◌+◌, ◌≤◌, ◌<◌, ◌≡◌, List, [], ◌∷◌, ◌++◌, ◌⊎◌}
use Rattle.octets.specs.Faults.{Fault, fault}
use Rattle.octets.specs.Choice.{when◌then◌else◌}
use Rattle.octets.specs.Among.{among, OneOf}
use Rattle.isup.specs.declared.Message.{Message}
use Rattle.isup.specs.Limits.{last_circuit}
use Rattle.isup.specs.WellFormed.{WellFormed}
use Rattle.isup.specs.Faults.{reader_faults}
use Rattle.marks.specs.Marks.{marks_in_lem}
use Rattle.isup.specs.Types.{GRS, CGB, CGU, CQM}
use Rattle.asks.specs.Types.{acting}
use Rattle.parts.specs.Spans.{span_size}
use Rattle.asks.specs.Asks.{range_in, block_kind, width, group_status, indicator_in}

-- the message reads, and what it reads as is such
abbrev pub Reads : List ℕ → (Message → Type 0) → Type 0
Reads m P = (x : Message) × WellFormed m x × P x

-- R28. 17: a type the hub does not act on
abbrev pub NotActedOn : Message → Type 0
NotActedOn x = OneOf x.kind acting → ⊥

-- R39, R44. GRS, CQM: contents exactly r's octet, range r from the least to 31
pub record KeepsRange (least : ℕ) (m : List ℕ) (x : Message) : Type 0 where
  pub exact : span_size x.parts.first ≡ 1
  pub above : least ≤ range_in m x.parts.first
  pub most : range_in m x.parts.first ≤ 31

-- R40, R41. CGB, CGU: low two bits of the indicator 0 or 1; range from 1 on (an octet, so to 255),
-- then exactly r/8+1 status octets; of the circuits m to m+r at most 32 are marked
pub record KeepsGroup (m : List ℕ) (x : Message) : Type 0 where
  pub kinds : block_kind (indicator_in m x) ≤ 1
  pub least : 1 ≤ range_in m x.parts.first
  pub exact : span_size x.parts.first ≡ 1 + width (range_in m x.parts.first)
  pub few : marks_in_lem (range_in m x.parts.first) (group_status m x.parts.first) ≤ 32

-- 14: typed contents break their rule: GRS has a range of 1 to 31, CQM of 0 to 31
abbrev pub BreaksRule : List ℕ → Message → Type 0
BreaksRule m x =
    ((x.kind ≡ GRS) × (KeepsRange 1 m x → ⊥))
    ⊎ ((OneOf x.kind (CGB ∷ CGU ∷ []) × (KeepsGroup m x → ⊥))
    ⊎ ((x.kind ≡ CQM) × (KeepsRange 0 m x → ⊥)))

-- R29. the range that a message gives: the range octet of GRS, CGB, CGU and CQM, else 0
abbrev pub range_given : List ℕ → Message → ℕ
range_given m x =
    when among x.kind (GRS ∷ CGB ∷ CGU ∷ CQM ∷ []) then range_in m x.parts.first else 0

-- R29. 18: group passes circuit 4095
abbrev pub GroupPasses : List ℕ → Message → Type 0
GroupPasses m x = last_circuit < x.circuit + range_given m x

-- what a message may be refused for by itself
abbrev pub ask_faults : List ℕ → List Fault
ask_faults m =
    reader_faults m
    ++ (fault 17 0 (Reads m NotActedOn)
    ∷ fault 14 0 (Reads m (BreaksRule m))
    ∷ fault 18 0 (Reads m (GroupPasses m))
    ∷ [])
