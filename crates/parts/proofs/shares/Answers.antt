use borrow.Author.Tests.{le-leb}
use mathlib.Core.Path.{refl}
use Rattle.octets.proofs.Tests.{tests}
use Rattle.parts.specs.Overlap.{shares_of}
use Rattle.parts.proofs.shares.Goals as goal

pub returns-then-b-a : goal.returns-then-b-a
unfolding shares_of
returns-then-b-a c = let x = c.args in rw (le-leb x.b.to x.a.from c.if-b-a.true) refl

pub returns-then-a-b : goal.returns-then-a-b
unfolding shares_of
returns-then-a-b c = search tests

pub returns : goal.returns
unfolding shares_of
returns c = search tests
