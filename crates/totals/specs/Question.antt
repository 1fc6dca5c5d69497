-- A question about the circuits from a to b: whole blocks are taken from the totals, and only loose
-- rows one by one. Order: 16, 9, 18.
use Rattle.std.specs.Prelude.{ℕ, ◌+◌, ◌-◌, ◌*◌, ◌/◌, ◌<◌, List, [], ◌∷◌, ltb}
use Rattle.octets.specs.Octet.{octet}
use Rattle.octets.specs.Choice.{when◌then◌else◌}
use Rattle.octets.specs.Answer.{Answer, accepted, refused}
use Rattle.octets.specs.Faults.{Fault, fault}
use Rattle.octets.specs.Sum.{total}
use Rattle.rows.specs.Rows.{busy}
use Rattle.totals.specs.declared.Count.{Count}
use Rattle.totals.specs.Blocks.{sized_totals, WrongSizes}

-- the first block that begins at a or later
abbrev pub first_whole : ℕ → ℕ
first_whole a = (a + 63) / 64

-- the blocks before this one end at b or earlier
abbrev pub past_whole : ℕ → ℕ
past_whole b = (b + 1) / 64

-- a sum over what a question about a to b looks at: `row` of each loose row,
-- `whole` of each block that lies within a to b
unfoldable pub looked_at : (ℕ → ℕ) → (ℕ → ℕ) → ℕ → ℕ → ℕ
looked_at row whole a b =
    when ltb (first_whole a) (past_whole b) then
    total row a (64 * first_whole a - a)
    + total whole (first_whole a) (past_whole b - first_whole a)
    + total row (64 * past_whole b) (b + 1 - 64 * past_whole b)
    else total row a (b + 1 - a)

-- how many are busy: the loose rows that are, and the totals of the whole blocks
abbrev pub busy_count : List ℕ → List ℕ → ℕ → ℕ → ℕ
busy_count rows totals a b = looked_at (λ i. busy (octet rows i)) (octet totals) a b

-- how many numbers are looked at: one for each loose row, and one for each whole block
abbrev pub looked_of : ℕ → ℕ → ℕ
looked_of a b = looked_at (λ i. 1) (λ k. 1) a b

-- both
abbrev pub count_between_lem : List ℕ → List ℕ → ℕ → ℕ → Count
count_between_lem rows totals a b = record { count = busy_count rows totals a b; looked = looked_of a b }

-- the count with how many were looked at, or the number: 16 where there are not 4096 states and 64
-- totals, 9 where b is above 4095, 18 where a is above b
unfoldable pub busy_between_lem : List ℕ → List ℕ → ℕ → ℕ → Answer Count
busy_between_lem states totals a b =
    when sized_totals states totals then
    (when ltb 4095 b then refused 9 0
    else when ltb b a then refused 18 0
    else accepted (count_between_lem states totals a b))
    else refused 16 0

-- R57. what a question may be refused for, in the paper's order
abbrev pub busy_faults : List ℕ → List ℕ → ℕ → ℕ → List Fault
busy_faults states totals a b =
    fault 16 0 (WrongSizes states totals)
    ∷ fault 9 0 (4095 < b)
    ∷ fault 18 0 (b < a)
    ∷ []
