use mathlib.Core.Path.{refl}
use borrow.Author.Tests.{lt-ltb, le-ltb}
use Rattle.marks.specs.Marks.{bits_in_lem}
use Rattle.marks.proofs.bits_in.Goals as goal

pub returns-then-j-range : goal.returns-then-j-range
unfolding bits_in_lem
returns-then-j-range c = rw (lt-ltb _ _ c.if-j-range.true) refl

pub returns : goal.returns
unfolding bits_in_lem
returns c = rw (le-ltb _ _ c.if-j-range.false) refl
