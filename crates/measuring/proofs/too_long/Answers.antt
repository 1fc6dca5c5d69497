use borrow.Author.Tests.{lt-ltb, le-ltb}
use Rattle.measuring.specs.Measure.{too_long_lem}
use Rattle.measuring.proofs.too_long.Goals as goal

pub returns-then-lengths-gt-LARGEST : goal.returns-then-lengths-gt-LARGEST
unfolding too_long_lem
returns-then-lengths-gt-LARGEST c = simp (lt-ltb _ _ c.if-lengths-gt-LARGEST.true)

pub returns-then-lengths-gt-LARGEST-2 : goal.returns-then-lengths-gt-LARGEST-2
unfolding too_long_lem
returns-then-lengths-gt-LARGEST-2 c = simp (le-ltb _ _ c.if-lengths-gt-LARGEST.false, lt-ltb _ _ c.if-lengths-gt-LARGEST-2.true)

pub returns : goal.returns
unfolding too_long_lem
returns c = simp (le-ltb _ _ c.if-lengths-gt-LARGEST.false, le-ltb _ _ c.if-lengths-gt-LARGEST-2.false)
