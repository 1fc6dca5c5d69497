-- The sample messages that are proved together: the paper's, one list of octets and outcomes, and a
-- list of our own with every type and kind that the hub acts on.
-- Where the hub is meant, sender 1 owns every circuit, and there are no helpers.
use Rattle.std.specs.Prelude.{ℕ, zero, suc, ◌+◌, ◌≡◌, List, [], ◌∷◌, length, take, replicate}
use Rattle.octets.specs.Octet.{octet, octets}
use Rattle.octets.specs.Answer.{Answer, accepted, refused, ◌then◌}
use Rattle.runs.specs.declared.Step.{Step}
use Rattle.runs.specs.declared.Step.TheVariants.{Param, Close, End, Pass}
use Rattle.runs.specs.Run.{step_at_lem}
use Rattle.parts.specs.Spans.{part_of}
use Rattle.isup.specs.Read.{read_of}
use Rattle.isup.specs.Write.{compact_in}
use Rattle.number.specs.Read.{number_in}
use Rattle.asks.specs.Asks.{ask_of}
use Rattle.rights.specs.Tables.{tables}
use Rattle.hub.specs.Acts.{After, act_of}

-- what is asked of a message: what the hub makes of it, its called number, its
-- compact form, its optional parameters
pub data Question : Type 0 where
  acts : Question
  calls : Question
  compacts : Question
  holds : Question

-- what a table says of it: each circuit that it names with its row afterwards, and the answer; the
-- number; the compact form; the optional parameters, each with its name; the refusal's number with
-- the octet that it is about
pub data Outcome : Type 0 where
  acted : List (ℕ × ℕ) → List ℕ → Outcome
  number : List ℕ → Outcome
  compact : List ℕ → Outcome
  parameters : List (ℕ × List ℕ) → Outcome
  refusal : ℕ → ℕ → Outcome

-- a call on rows that are all that octet, with room enough
abbrev pub hub_on : ℕ → List ℕ → After
hub_on row m =
    act_of (tables (replicate 4096 row) (replicate 4096 1) (replicate 4096 0)) 1 m (replicate 268 0)

-- the answer's octets, or the number
abbrev pub answered : After → Answer (List ℕ)
answered r = r.answer then λ n. accepted (take n r.buffer)

-- n circuits from one on, each with its row
abbrev pub rows_from : List ℕ → ℕ → ℕ → List (ℕ × ℕ)
rows_from states circuit zero = []
rows_from states circuit (suc n) = (circuit, octet states circuit) ∷ rows_from states (suc circuit) n

-- the parameter that stands there, and those after it
abbrev pub collect : List ℕ → (ℕ → List (ℕ × List ℕ)) → Step → List (ℕ × List ℕ)
collect m on (Param f) = (f.name, octets m f.at f.len) ∷ on (f.at + f.len)
collect m on Close = []
collect m on End = []
collect m on Pass = []

-- the optional parameters one after the other from octet i on, n at the most
abbrev pub parameters_from : ℕ → List ℕ → ℕ → List (ℕ × List ℕ)
parameters_from zero m i = []
parameters_from (suc n) m i = collect m (parameters_from n m) (step_at_lem m i)

-- an outcome, or the refusal as one
abbrev pub as_outcome : Answer Outcome → Outcome
as_outcome (accepted x) = x
as_outcome (refused n at) = refusal n at

-- what the hub makes of a message, all rows that octet
abbrev pub acted_on : ℕ → List ℕ → Outcome
acted_on row m =
    as_outcome (answered (hub_on row m) then λ ys. ask_of m
    then λ a. accepted (acted (rows_from (hub_on row m).states a.circuit (a.range + 1)) ys))

-- each by the definitions that the code is proved to meet; for the hub the rows are 0
abbrev pub outcome_of : Question → List ℕ → Outcome
outcome_of acts m = acted_on 0 m
outcome_of calls m =
    as_outcome (read_of m then λ x. number_in (part_of m x.parts.first)
    then λ y. accepted (number y.1))
outcome_of compacts m = as_outcome (compact_in m then λ y. accepted (compact y.1))
outcome_of holds m =
    as_outcome (read_of m
    then λ x. accepted (parameters (parameters_from (length m) m x.parts.optional.from)))

-- the paper's twelve rows: GRS for circuits 5 to 8, BLO for circuit 291, CGB that marks 8 and 17,
-- REL, an IAM's number, the compact form, one optional parameter, and five refusals
abbrev pub paper_rows : List (Question × List ℕ × Outcome)
paper_rows = (
  acts,
  0x05 ∷ 0x00 ∷ 0x17 ∷ 0x01 ∷ 0x01 ∷ 0x03 ∷ [],
  acted ((5, 0) ∷ (6, 0) ∷ (7, 0) ∷ (8, 0) ∷ []) (0x05 ∷ 0x00 ∷ 0x29 ∷ 0x01 ∷ 0x02 ∷ 0x03
      ∷ 0x00 ∷ []),
)
    ∷ (acts, 0x23 ∷ 0x01 ∷ 0x13 ∷ [], acted ((291, 2) ∷ []) (0x23 ∷ 0x01 ∷ 0x15 ∷ []))
    ∷ (
      acts,
      0x08 ∷ 0x00 ∷ 0x18 ∷ 0x00 ∷ 0x01 ∷ 0x03 ∷ 0x09 ∷ 0x01 ∷ 0x02 ∷ [],
      acted ((8, 2) ∷ (9, 0) ∷ (10, 0) ∷ (11, 0) ∷ (12, 0) ∷ (13, 0) ∷ (14, 0) ∷ (15, 0) ∷ (16, 0)
          ∷ (17, 2) ∷ []) (0x08 ∷ 0x00 ∷ 0x1A ∷ 0x00 ∷ 0x01 ∷ 0x03 ∷ 0x09 ∷ 0x01 ∷ 0x02 ∷ []),
    )
    ∷ (
      acts,
      0x01 ∷ 0x00 ∷ 0x0C ∷ 0x02 ∷ 0x00 ∷ 0x02 ∷ 0x80 ∷ 0x90 ∷ [],
      acted ((1, 0) ∷ []) (0x01 ∷ 0x00 ∷ 0x10 ∷ 0x00 ∷ []),
    )
    ∷ (
      calls,
      0x01 ∷ 0x00 ∷ 0x01 ∷ 0x00 ∷ 0x60 ∷ 0x01 ∷ 0x0A ∷ 0x00 ∷ 0x02 ∷ 0x00 ∷ 0x04 ∷ 0x03
          ∷ 0x10 ∷ 0x21 ∷ 0x43 ∷ [],
      number (1 ∷ 2 ∷ 3 ∷ 4 ∷ []),
    )
    ∷ (compacts, 0x01 ∷ 0x00 ∷ 0x09 ∷ 0x01 ∷ 0x00 ∷ [], compact (0x01 ∷ 0x00 ∷ 0x09 ∷ 0x00 ∷ []))
    ∷ (
      holds,
      0x01 ∷ 0x00 ∷ 0x09 ∷ 0x01 ∷ 0x20 ∷ 0x01 ∷ 0x41 ∷ 0x00 ∷ [],
      parameters ((0x20, 0x41 ∷ []) ∷ []),
    )
    ∷ (holds, 0x01 ∷ 0x00 ∷ 0x09 ∷ 0x01 ∷ 0x20 ∷ 0x01 ∷ 0x41 ∷ [], refusal 7 7)
    ∷ (acts, 0x01 ∷ 0x00 ∷ 0x0C ∷ 0x02 ∷ 0x00 ∷ 0x03 ∷ 0x80 ∷ 0x90 ∷ [], refusal 6 5)
    ∷ (acts, 0x01 ∷ 0x00 ∷ 0x0C ∷ 0x01 ∷ 0x00 ∷ [], refusal 5 3)
    ∷ (acts, 0x01 ∷ 0x00 ∷ 0x0C ∷ 0x02 ∷ 0x01 ∷ 0x01 ∷ 0x00 ∷ 0x00 ∷ [], refusal 8 5)
    ∷ (acts, 0x01 ∷ 0x00 ∷ 0x09 ∷ 0x01 ∷ [], refusal 5 3)
    ∷ []

-- each row's octets have the row's outcome
abbrev pub AllHold : List (Question × List ℕ × Outcome) → Type 0
AllHold [] = Unit {0}
AllHold (r ∷ rs) = (outcome_of r.0 r.1 ≡ r.2) × AllHold rs

-- our own: every type that the hub acts on, CGB and CGU for maintenance and for hardware, on rows
-- that are busy or blocked before; the octet of every row before, the message, the outcome
abbrev pub ours : List (ℕ × List ℕ × Outcome)
ours = (
  0,
  0x01 ∷ 0x00 ∷ 0x01 ∷ 0x00 ∷ 0x60 ∷ 0x01 ∷ 0x0A ∷ 0x00 ∷ 0x02 ∷ 0x00 ∷ 0x04 ∷ 0x03 ∷ 0x10
      ∷ 0x21 ∷ 0x43 ∷ [],
  acted ((1, 1) ∷ []) [],
)
    ∷ (
      2,
      0x01 ∷ 0x00 ∷ 0x01 ∷ 0x00 ∷ 0x60 ∷ 0x01 ∷ 0x0A ∷ 0x00 ∷ 0x02 ∷ 0x00 ∷ 0x04 ∷ 0x03 ∷ 0x10
          ∷ 0x21 ∷ 0x43 ∷ [],
      refusal 21 0,
    )
    ∷ (
      3,
      0x01 ∷ 0x00 ∷ 0x0C ∷ 0x02 ∷ 0x00 ∷ 0x02 ∷ 0x80 ∷ 0x90 ∷ [],
      acted ((1, 2) ∷ []) (0x01 ∷ 0x00 ∷ 0x10 ∷ 0x00 ∷ []),
    )
    ∷ (6, 0x05 ∷ 0x00 ∷ 0x12 ∷ [], acted ((5, 0) ∷ []) (0x05 ∷ 0x00 ∷ 0x10 ∷ 0x00 ∷ []))
    ∷ (1, 0x23 ∷ 0x01 ∷ 0x13 ∷ [], acted ((291, 3) ∷ []) (0x23 ∷ 0x01 ∷ 0x15 ∷ []))
    ∷ (6, 0x23 ∷ 0x01 ∷ 0x14 ∷ [], acted ((291, 4) ∷ []) (0x23 ∷ 0x01 ∷ 0x16 ∷ []))
    ∷ (
      3,
      0x05 ∷ 0x00 ∷ 0x17 ∷ 0x01 ∷ 0x01 ∷ 0x01 ∷ [],
      acted ((5, 0) ∷ (6, 0) ∷ []) (0x05 ∷ 0x00 ∷ 0x29 ∷ 0x01 ∷ 0x02 ∷ 0x01 ∷ 0x00 ∷ []),
    )
    ∷ (
      1,
      0x05 ∷ 0x00 ∷ 0x18 ∷ 0x00 ∷ 0x01 ∷ 0x02 ∷ 0x01 ∷ 0xFE ∷ [],
      acted ((5, 1) ∷ (6, 3) ∷ []) (0x05 ∷ 0x00 ∷ 0x1A ∷ 0x00 ∷ 0x01 ∷ 0x02 ∷ 0x01 ∷ 0x02 ∷ []),
    )
    ∷ (
      3,
      0x05 ∷ 0x00 ∷ 0x18 ∷ 0x01 ∷ 0x01 ∷ 0x02 ∷ 0x01 ∷ 0x01 ∷ [],
      acted ((5, 6) ∷ (6, 3) ∷ []) (0x05 ∷ 0x00 ∷ 0x1A ∷ 0x01 ∷ 0x01 ∷ 0x02 ∷ 0x01 ∷ 0x01 ∷ []),
    )
    ∷ (
      3,
      0x05 ∷ 0x00 ∷ 0x19 ∷ 0xFC ∷ 0x01 ∷ 0x02 ∷ 0x01 ∷ 0x01 ∷ [],
      acted ((5, 1) ∷ (6, 3) ∷ []) (0x05 ∷ 0x00 ∷ 0x1B ∷ 0x00 ∷ 0x01 ∷ 0x02 ∷ 0x01 ∷ 0x01 ∷ []),
    )
    ∷ (
      6,
      0x05 ∷ 0x00 ∷ 0x19 ∷ 0x01 ∷ 0x01 ∷ 0x02 ∷ 0x01 ∷ 0x02 ∷ [],
      acted ((5, 6) ∷ (6, 2) ∷ []) (0x05 ∷ 0x00 ∷ 0x1B ∷ 0x01 ∷ 0x01 ∷ 0x02 ∷ 0x01 ∷ 0x02 ∷ []),
    )
    ∷ (0, 0x05 ∷ 0x00 ∷ 0x18 ∷ 0x02 ∷ 0x01 ∷ 0x02 ∷ 0x01 ∷ 0x01 ∷ [], refusal 14 0)
    ∷ (5, 0x23 ∷ 0x01 ∷ 0x13 ∷ [], refusal 20 0)
    ∷ (
      3,
      0x05 ∷ 0x00 ∷ 0x2A ∷ 0x01 ∷ 0x01 ∷ 0x01 ∷ [],
      acted ((5, 3) ∷ (6, 3) ∷ []) (0x05 ∷ 0x00 ∷ 0x2B ∷ 0x02 ∷ 0x03 ∷ 0x01 ∷ 0x01 ∷ 0x02 ∷ 0x06
          ∷ 0x06 ∷ []),
    )
    ∷ (
      6,
      0x23 ∷ 0x01 ∷ 0x2A ∷ 0x01 ∷ 0x01 ∷ 0x00 ∷ [],
      acted ((291, 6) ∷ []) (0x23 ∷ 0x01 ∷ 0x2B ∷ 0x02 ∷ 0x03 ∷ 0x01 ∷ 0x00 ∷ 0x01 ∷ 0x2E ∷ []),
    )
    ∷ (5, 0x05 ∷ 0x00 ∷ 0x2A ∷ 0x01 ∷ 0x01 ∷ 0x01 ∷ [], refusal 20 0)
    ∷ []

-- each of ours has its outcome
abbrev pub OursHold : List (ℕ × List ℕ × Outcome) → Type 0
OursHold [] = Unit {0}
OursHold (r ∷ rs) = (acted_on r.0 r.1 ≡ r.2) × OursHold rs
