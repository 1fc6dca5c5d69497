use Rattle.std.proofs.Common.{sym, arith}
use lib.Ieee.{of_bits}
use Rattle.velocity.proofs.Double.{within, beyond, negative, bearing-none}
use Rattle.coding.proofs.bearing_code.Goals as goal

pub truncating_f64_to_u64-n-requires : goal.truncating_f64_to_u64-n-requires
unfolding of_bits
truncating_f64_to_u64-n-requires c = let n = within c.args.b c.if-b.true c.if-b-2.true in record { lower_bound = n.above; upper_bound = n.below }

pub overflow_cast-result : goal.overflow_cast-result
unfolding of_bits
overflow_cast-result c = let n = within c.args.b c.if-b.true c.if-b-2.true in record { fits = omega (arith, n.fits, c.truncating_f64_to_u64-n.ensures) }

pub returns-then-b-2 : goal.returns-then-b-2
unfolding of_bits
returns-then-b-2 c = let n = within c.args.b c.if-b.true c.if-b-2.true in rw c.truncating_f64_to_u64-n.ensures (sym n.code)

pub returns-else-b-2 : goal.returns-else-b-2
unfolding of_bits
returns-else-b-2 c = sym (beyond _ c.if-b.true c.if-b-2.false)

pub returns-else-b : goal.returns-else-b
unfolding of_bits
returns-else-b c = sym (bearing-none _ (negative _ c.if-b.false))
