-- The faults of an SCCP message, in the paper's order: the reader's; writing's 3, 10, 11, 12, 2,
-- 13; and of reading and writing again the reader's, 12, 13.
use Rattle.std.specs.Prelude.{ℕ, List, [], ◌∷◌, ◌++◌}
use Rattle.octets.specs.Faults.{Fault}
use Rattle.octets.specs.Filled.{room_fault}
use Rattle.family.specs.Faults.{family_faults, family_writer_faults, family_compact_faults}
use Rattle.sccp.specs.Table.{sccp}
use Rattle.sccp.specs.Write.{sccp_order_of, sccp_write_in}

-- the reader's: 1, 2, 3, 4; each variable pointer in turn 5 then 6; the
-- optional pointer 5 then 7; then 8
abbrev pub sccp_faults : List ℕ → List Fault
sccp_faults m = family_faults sccp m

-- the writer's 3, 10, 11, 12, 2, then 13, where the lent output is too short
abbrev pub sccp_write_faults : ℕ → List ℕ → List ℕ → List ℕ → List ℕ → List ℕ → List ℕ → List Fault
sccp_write_faults kind fixed first second third run buffer =
    family_writer_faults sccp (sccp_order_of kind fixed first second third run)
    ++ (room_fault (sccp_write_in kind fixed first second third run) buffer ∷ [])

-- the reader's, 12, 13
abbrev pub sccp_compact_faults : List ℕ → List ℕ → List Fault
sccp_compact_faults m buffer = family_compact_faults sccp [] m buffer
