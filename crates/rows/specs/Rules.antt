-- What becomes of a row, in the words of the circuit rules, as statements and not as a computation.
-- No act changes the 8: only the desk does.
use Rattle.std.specs.Prelude.{ℕ, ◌/◌, ◌≡◌, Bool, true, false}
use Rattle.rows.specs.declared.Act.{Act}
use Rattle.rows.specs.declared.Act.TheVariants.{Seize, Release, Reset, Block, Unblock, ResetGroup, BlockGroup, UnblockGroup, Query}
use Rattle.rows.specs.Rows.{busy, maintenance, hardware, local}

-- R35. IAM: state must be 0, becomes 1
abbrev pub Seized : ℕ → ℕ → Type 0
Seized old new = (old ≡ 0) × (new ≡ 1)

-- R36. REL: not busy, blocks stay
abbrev pub Released : ℕ → ℕ → Type 0
Released old new =
    (busy new ≡ 0) × (maintenance new ≡ maintenance old) × (hardware new ≡ hardware old)
    × (local new ≡ local old)

-- R37, R39. RSC, GRS: state 0 but for the 8, which is kept
abbrev pub Cleared : ℕ → ℕ → Type 0
Cleared old new =
    (busy new ≡ 0) × (maintenance new ≡ 0) × (hardware new ≡ 0) × (local new ≡ local old)
    × (new / 16 ≡ 0)

-- R38, R42. BLO, and CGB for maintenance: the 2 is set
abbrev pub BlockedForMaintenance : ℕ → ℕ → Type 0
BlockedForMaintenance old new =
    (maintenance new ≡ 1) × (busy new ≡ busy old) × (hardware new ≡ hardware old)
    × (local new ≡ local old)

-- R38, R42. UBL, and CGU for maintenance: the 2 is cleared
abbrev pub UnblockedForMaintenance : ℕ → ℕ → Type 0
UnblockedForMaintenance old new =
    (maintenance new ≡ 0) × (busy new ≡ busy old) × (hardware new ≡ hardware old)
    × (local new ≡ local old)

-- R42. CGB for hardware: the 4 is set, and busy ends
abbrev pub BlockedForHardware : ℕ → ℕ → Type 0
BlockedForHardware old new =
    (hardware new ≡ 1) × (busy new ≡ 0) × (maintenance new ≡ maintenance old)
    × (local new ≡ local old)

-- R42. CGU for hardware: the 4 is cleared
abbrev pub UnblockedForHardware : ℕ → ℕ → Type 0
UnblockedForHardware old new =
    (hardware new ≡ 0) × (busy new ≡ busy old) × (maintenance new ≡ maintenance old)
    × (local new ≡ local old)

-- R44. CQM: no row changes
abbrev pub Unchanged : ℕ → ℕ → Type 0
Unchanged old new = new ≡ old

-- R46. the desk sets the 8, or clears it; all else that the row says stays
abbrev pub LocallyBlocked : Bool → ℕ → ℕ → Type 0
LocallyBlocked true old new =
    (local new ≡ 1) × (busy new ≡ busy old) × (maintenance new ≡ maintenance old)
    × (hardware new ≡ hardware old)
LocallyBlocked false old new =
    (local new ≡ 0) × (busy new ≡ busy old) × (maintenance new ≡ maintenance old)
    × (hardware new ≡ hardware old)

-- what each act makes of a row that it may change: a kind of block, 0 for maintenance and 1 for
-- hardware, comes with CGB and CGU
abbrev pub Becomes : Act → ℕ → ℕ → ℕ → Type 0
Becomes Seize block old new = old ≡ 0 → Seized old new
Becomes Release block old new = Released old new
Becomes Reset block old new = Cleared old new
Becomes Block block old new = BlockedForMaintenance old new
Becomes Unblock block old new = UnblockedForMaintenance old new
Becomes ResetGroup block old new = Cleared old new
Becomes BlockGroup block old new =
    (block ≡ 0 → BlockedForMaintenance old new) × (block ≡ 1 → BlockedForHardware old new)
Becomes UnblockGroup block old new =
    (block ≡ 0 → UnblockedForMaintenance old new) × (block ≡ 1 → UnblockedForHardware old new)
Becomes Query block old new = Unchanged old new
