use Rattle.std.proofs.Common.{arith}
use Rattle.velocity.proofs.Double.{under_top}
use Rattle.coding.proofs.code.Goals as goal

pub overflow_cast-result : goal.overflow_cast-result
overflow_cast-result c = record { fits = omega (arith, under_top 255 _ c.in_ok-j-in-WithVertical.j c.in_ok-j-in-WithVertical.ensures) }
