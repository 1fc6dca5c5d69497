-- The faults of writing, in the paper's order: 9, 3, 10, 11, 12, 2, 13; and of reading and writing
-- again: the reader's, 12, 13.
use Rattle.std.specs.Prelude.{ℕ, ◌<◌, List, [], ◌∷◌, ◌++◌}
use Rattle.octets.specs.Filled.{room_fault}
use Rattle.octets.specs.Faults.{Fault, fault}
use Rattle.family.specs.Faults.{family_writer_faults, family_compact_faults}
use Rattle.isup.specs.Limits.{last_circuit}
use Rattle.isup.specs.Table.{isup}
use Rattle.isup.specs.Read.{circuit_of_lem}
use Rattle.isup.specs.Write.{head_of, order_of, write_in}

-- R17. the writer's: 9, then the family's 3, 10, 11, 12, 2
abbrev pub writer_faults : ℕ → ℕ → List ℕ → List ℕ → List ℕ → List ℕ → List Fault
writer_faults circuit kind fixed first second run =
    fault 9 0 (last_circuit < circuit)
    ∷ family_writer_faults isup (order_of circuit kind fixed first second run)

-- then 13, where the lent output is too short
abbrev pub write_faults : ℕ → ℕ → List ℕ → List ℕ → List ℕ → List ℕ → List ℕ → List Fault
write_faults circuit kind fixed first second run buffer =
    writer_faults circuit kind fixed first second run
    ++ (room_fault (write_in circuit kind fixed first second run) buffer ∷ [])

-- the reader's, 12, 13
abbrev pub compact_faults : List ℕ → List ℕ → List Fault
compact_faults m buffer = family_compact_faults isup (head_of (circuit_of_lem m)) m buffer
