use native.Mathlib.Omega.{arith}
use Rattle.measuring.proofs.gap_of.Goals as goal

pub returns-then-shape : goal.returns-then-shape
returns-then-shape c = (simp c.if-shape.true (omega (arith, c.count_of-count.ensures.0)), omega (arith, c.count_of-count.ensures.1))

pub returns : goal.returns
returns c = (simp c.if-shape.false (omega (arith, c.count_of-count.ensures.0)), omega (arith, c.count_of-count.ensures.1))
