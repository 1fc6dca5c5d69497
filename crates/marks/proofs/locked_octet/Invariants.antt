use Rattle.std.proofs.Common.{◌≡◌, ◌+◌, ◌-◌, ◌*◌}
use Rattle.marks.specs.Marks.{bits_in_lem, locked_bits}
use Rattle.marks.proofs.locked_octet.Given as goal

abbrev pub invariant-loop-bit : goal.invariant-loop-bit
invariant-loop-bit l = l.octet ≡ locked_bits l.group (8 * l.j + l.bit) (bits_in_lem l.range l.j - l.bit)
