-- What a row says and what becomes of it: 1 busy, 2 remotely blocked for maintenance, 4 for
-- hardware, 8 locally blocked, added up.
use Rattle.std.specs.Prelude.{ℕ, ◌+◌, ◌-◌, ◌*◌, ◌/◌, ◌%◌, Bool, List, [], ◌∷◌, eqb}
use Rattle.octets.specs.Choice.{when◌then◌else◌}
use Rattle.octets.specs.Among.{among, OneOf}
use Rattle.rows.specs.declared.Act.{Act}
use Rattle.rows.specs.declared.Act.TheVariants.{Seize, Release, Reset, Block, Unblock, ResetGroup, BlockGroup, UnblockGroup, Query}

-- ---- what a row says
-- 1 where the circuit is busy
abbrev pub busy : ℕ → ℕ
busy row = row % 2

-- 1 where it is remotely blocked for maintenance
abbrev pub maintenance : ℕ → ℕ
maintenance row = row / 2 % 2

-- 1 where it is remotely blocked for hardware
abbrev pub hardware : ℕ → ℕ
hardware row = row / 4 % 2

-- 1 where it is locally blocked: by our own desk
abbrev pub local : ℕ → ℕ
local row = row / 8 % 2

-- R26. the states that a row may have: document 01's, and each of them with 8 added
abbrev pub legal_rows : List ℕ
legal_rows = 0 ∷ 1 ∷ 2 ∷ 3 ∷ 4 ∷ 6 ∷ 8 ∷ 9 ∷ 10 ∷ 11 ∷ 12 ∷ 14 ∷ []

-- whether a row is one of them
unfoldable pub is_legal : ℕ → Bool
is_legal row = among row legal_rows

-- the same as a statement
abbrev pub Legal : ℕ → Type 0
Legal row = OneOf row legal_rows

-- ---- what becomes of it
-- the row with busy ended; blocks stay
abbrev pub idled : ℕ → ℕ
idled row = row / 2 * 2

-- the row with the 2 set
abbrev pub with_maintenance : ℕ → ℕ
with_maintenance row = row / 4 * 4 + 2 + row % 2

-- the row with the 2 cleared
abbrev pub without_maintenance : ℕ → ℕ
without_maintenance row = row / 4 * 4 + row % 2

-- the row with the 4 set
abbrev pub with_hardware : ℕ → ℕ
with_hardware row = row / 8 * 8 + 4 + row % 4

-- the row with the 4 cleared
abbrev pub without_hardware : ℕ → ℕ
without_hardware row = row / 8 * 8 + row % 4

-- state 0 but for the 8
abbrev pub cleared : ℕ → ℕ
cleared row = local row * 8

-- the row with the 8 set
abbrev pub with_local : ℕ → ℕ
with_local row = row / 16 * 16 + 8 + row % 8

-- the row with the 8 cleared
abbrev pub without_local : ℕ → ℕ
without_local row = row / 16 * 16 + row % 8

-- a block of that kind set, and for hardware busy ended too
unfoldable pub blocked_row : ℕ → ℕ → ℕ
blocked_row block row = when eqb block 0 then with_maintenance row else idled (with_hardware row)

-- a block of that kind cleared
unfoldable pub unblocked_row : ℕ → ℕ → ℕ
unblocked_row block row = when eqb block 0 then without_maintenance row else without_hardware row

-- what an act makes of a marked circuit's row; the kind of block comes with the acts on groups
unfoldable pub changed_row : Act → ℕ → ℕ → ℕ
changed_row Seize block row = 1
changed_row Release block row = idled row
changed_row Reset block row = cleared row
changed_row Block block row = blocked_row 0 row
changed_row Unblock block row = unblocked_row 0 row
changed_row ResetGroup block row = cleared row
changed_row BlockGroup block row = blocked_row block row
changed_row UnblockGroup block row = unblocked_row block row
changed_row Query block row = row

-- unmarked circuits stay
abbrev pub row_of : Act → ℕ → Bool → ℕ → ℕ
row_of act block marked row = when marked then changed_row act block row else row

-- what the desk makes of a row: the 8 is set or cleared
unfoldable pub local_row : Bool → ℕ → ℕ
local_row set row = when set then with_local row else without_local row

-- ---- what is told of it
-- R44. the circuit state octet of a row (003, 3.12): idle 0C, busy 04, remotely blocked for
-- maintenance 02 more, for hardware 20 more, locally blocked 01 more
abbrev pub circuit_state_lem : ℕ → ℕ
circuit_state_lem row = 12 - 8 * busy row + 2 * maintenance row + 32 * hardware row + local row
