-- Busy rows counted by blocks: block k has the 64 circuits from 64 k on, and a total.
use Rattle.std.specs.Prelude.{ℕ, ◌+◌, ◌-◌, ◌*◌, ◌/◌, ◌<◌, ◌≡◌, Bool, false, List, [], ◌∷◌, ◌⊎◌, eqb, length}
use Rattle.octets.specs.Octet.{octet}
use Rattle.octets.specs.Choice.{when◌then◌else◌}
use Rattle.octets.specs.Answer.{accepted, refused}
use Rattle.octets.specs.Applied.{applied}
use Rattle.octets.specs.Faults.{Fault, fault}
use Rattle.octets.specs.Filled.{Done, leaving}
use Rattle.octets.specs.Sum.{total}
use Rattle.rows.specs.Rows.{busy}

-- how many of the n rows from circuit c on have their busy bit set; past the end there is none
abbrev pub busy_in : List ℕ → ℕ → ℕ → ℕ
busy_in rows c n = total (λ i. busy (octet rows i)) c n

-- how many rows of block k are busy
abbrev pub block_count_lem : List ℕ → ℕ → ℕ
block_count_lem rows k = busy_in rows (64 * k) 64

-- R55. the total of block k is right: it is the count of its rows
abbrev pub Right : List ℕ → List ℕ → ℕ → Type 0
Right rows totals k = octet totals k ≡ block_count_lem rows k

-- every total is right
abbrev pub AllRight : List ℕ → List ℕ → Type 0
AllRight rows totals = (k : ℕ) → k < 64 → Right rows totals k

-- the totals where the blocks from k to m are counted anew, whatever their totals were
abbrev pub blocks_counted : List ℕ → ℕ → ℕ → List ℕ → List ℕ
blocks_counted rows k m totals = applied (λ b old. block_count_lem rows b) k (m + 1 - k) totals

-- the totals where each block that holds one of the circuits from the first
-- to the last is counted anew
unfoldable pub recounted : List ℕ → ℕ → ℕ → List ℕ → List ℕ
recounted rows first last totals = blocks_counted rows (first / 64) (last / 64) totals

-- every block is counted anew
abbrev pub all_counted : List ℕ → List ℕ → List ℕ
all_counted rows totals = recounted rows 0 4095 totals

-- there are exactly 4096 states and 64 totals
abbrev pub sized_totals : List ℕ → List ℕ → Bool
sized_totals states totals = when eqb (length states) 4096 then eqb (length totals) 64 else false

-- all 64 blocks counted anew, or 16 where there are not 4096 states and 64
-- totals; a refusal keeps the totals
unfoldable pub rebuild_of : List ℕ → List ℕ → Done ℕ
rebuild_of states totals =
    when sized_totals states totals then leaving (accepted 64) (all_counted states totals)
    else leaving (refused 16 0) totals

-- 16: not 4096 states, or not 64 totals
abbrev pub WrongSizes : List ℕ → List ℕ → Type 0
WrongSizes states totals = (length states ≡ 4096 → ⊥) ⊎ (length totals ≡ 64 → ⊥)

-- R58. what a rebuild may be refused for
abbrev pub rebuild_faults : List ℕ → List ℕ → List Fault
rebuild_faults states totals = fault 16 0 (WrongSizes states totals) ∷ []
