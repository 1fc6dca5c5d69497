-- The faults of an ISUP message, in the paper's order.
use Rattle.std.specs.Prelude.{ℕ, List}
use Rattle.octets.specs.Faults.{Fault}
use Rattle.family.specs.Faults.{family_faults}
use Rattle.isup.specs.Table.{isup}

-- R15. the reader's: 1, 2, 3, 4; each variable pointer in turn 5 then 6; the
-- optional pointer 5 then 7; then 8
abbrev pub reader_faults : List ℕ → List Fault
reader_faults m = family_faults isup m
