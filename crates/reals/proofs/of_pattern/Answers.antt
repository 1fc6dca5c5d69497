use mathlib.Core.Path.{sym}
use lib.Ieee.{of_bits, div}
use Rattle.decimals.proofs.Patterns.{pattern-nan, pattern_number}
use Rattle.reals.proofs.of_pattern.Goals as goal

pub returns-then-bits-gt9218868437227405312 : goal.returns-then-bits-gt9218868437227405312
unfolding of_bits div
returns-then-bits-gt9218868437227405312 c = sym (pattern-nan c.args.bits c.if-bits-gt9218868437227405312.true)

pub float_from_bits-result : goal.float_from_bits-result
float_from_bits-result c = pattern_number c.args.bits c.if-bits-gt9218868437227405312.false
