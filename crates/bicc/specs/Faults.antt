-- The faults of a BICC message, in the paper's order: the reader's; writing's 3, 10, 11, 12, 2, 13;
-- and of reading and writing again the reader's, 12, 13.
use Rattle.std.specs.Prelude.{ℕ, List, [], ◌∷◌, ◌++◌}
use Rattle.octets.specs.Octet.{octets}
use Rattle.octets.specs.Faults.{Fault}
use Rattle.octets.specs.Filled.{room_fault}
use Rattle.family.specs.Faults.{family_faults, family_writer_faults, family_compact_faults}
use Rattle.bicc.specs.Table.{bicc}
use Rattle.bicc.specs.Write.{call_order_of, call_write_in}

-- the reader's: 1, 2, 3, 4; each variable pointer in turn 5 then 6; the
-- optional pointer 5 then 7; then 8
abbrev pub call_faults : List ℕ → List Fault
call_faults m = family_faults bicc m

-- the writer's 3, 10, 11, 12, 2, then 13, where the lent output is too short
abbrev pub call_write_faults : ℕ → ℕ → List ℕ → List ℕ → List ℕ → List ℕ → List ℕ → List Fault
call_write_faults code kind fixed first second run buffer =
    family_writer_faults bicc (call_order_of code kind fixed first second run)
    ++ (room_fault (call_write_in code kind fixed first second run) buffer ∷ [])

-- the reader's, 12, 13
abbrev pub call_compact_faults : List ℕ → List ℕ → List Fault
call_compact_faults m buffer = family_compact_faults bicc (octets m 0 4) m buffer
