-- The plan: from circuit 0 up, ticked circuits in a row, 32 at the most, as
-- one CGB with every bit set.
-- A single one is BLO for maintenance; for hardware it is a CGB of range 1 with an owned neighbour.
use Rattle.std.specs.Prelude.{ℕ, zero, suc, ◌+◌, ◌-◌, ◌/◌, ◌%◌, ◌^◌, Bool, List, [], ◌∷◌, ltb, eqb}
use Rattle.octets.specs.Choice.{when◌then◌else◌}
use Rattle.rows.specs.declared.Act.TheVariants.{Block, BlockGroup}
use Rattle.asks.specs.declared.Ask.{Ask}
use Rattle.isup.specs.Types.{BLO, CGB}
use Rattle.asks.specs.Asks.{width, one_ask}
use Rattle.plans.specs.Frames.{framed}
use Rattle.plans.specs.Plans.{Step, messages}
use Rattle.surveys.specs.Surveys.{next_will_do_lem}

-- how many are ticked in a row from c on, n at the most
unfoldable pub in_row : (ℕ → Bool) → ℕ → ℕ → ℕ
in_row tick c zero = 0
in_row tick c (suc n) = when tick c then suc (in_row tick (suc c) n) else 0

-- an octet with its first n bits set
unfoldable pub low_ones_lem : ℕ → ℕ
low_ones_lem n = when ltb n 8 then 2 ^ n - 1 else 255

-- the octets of a status with its first n bits set: whole octets, then what is left over
unfoldable pub ones : ℕ → ℕ → List ℕ
ones zero n = []
ones (suc k) n = low_ones_lem n ∷ ones k (n - 8)

-- BLO: circuit number and type
abbrev pub blo : ℕ → List ℕ
blo c = (c % 256) ∷ (c / 256) ∷ BLO ∷ []

-- CGB: circuit number, type, indicator, pointer, length, range, status
abbrev pub cgb : ℕ → ℕ → ℕ → List ℕ → List ℕ
cgb c kind r status = (c % 256) ∷ (c / 256) ∷ CGB ∷ kind ∷ 1 ∷ (1 + width r) ∷ r ∷ status

-- what it asks
abbrev pub cgb_ask : ℕ → ℕ → ℕ → Ask
cgb_ask c kind r = record { act = BlockGroup; circuit = c; range = r; block = kind; status = 7 }

-- the message with what it asks
abbrev pub cgb_step : ℕ → ℕ → ℕ → List ℕ → Step
cgb_step c kind r status = record { message = cgb c kind r status; ask = cgb_ask c kind r }

-- the message with what it asks
abbrev pub blo_step : ℕ → Step
blo_step c = record { message = blo c; ask = one_ask Block c }

-- a single one for hardware: its bit is the first or the second
abbrev pub paired : (ℕ → Bool) → ℕ → Step
paired can c = when next_will_do_lem can c then cgb_step c 1 1 (1 ∷ []) else cgb_step (c - 1) 1 1 (2 ∷ [])

-- the message for n ticked circuits in a row from c on
unfoldable pub step_for : ℕ → (ℕ → Bool) → ℕ → ℕ → Step
step_for kind can c n =
    when eqb n 1 then (when eqb kind 0 then blo_step c else paired can c)
    else cgb_step c kind (n - 1) (ones (width (n - 1)) n)

-- from circuit c on; f + c is at least 4096
unfoldable pub plan_from : ℕ → (ℕ → Bool) → (ℕ → Bool) → ℕ → ℕ → List Step
plan_from kind can tick zero c = []
plan_from kind can tick (suc f) c =
    when tick c then step_for kind can c (in_row tick c 32) ∷ plan_from kind can tick f (c + in_row tick c 32)
    else plan_from kind can tick f (suc c)

-- the plan's octets
unfoldable pub plan_of : ℕ → (ℕ → Bool) → (ℕ → Bool) → List ℕ
plan_of kind can tick = framed (messages (plan_from kind can tick 4096 0))
