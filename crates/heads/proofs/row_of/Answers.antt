use borrow.Author.Tests.{eq-eqb, ne_eqb}
use Rattle.layout.specs.Packed.{unpacked_of}
use Rattle.heads.proofs.row_of.Goals as goal

pub returns-then-packed-eq0 : goal.returns-then-packed-eq0
unfolding unpacked_of
returns-then-packed-eq0 c = rw (eq-eqb _ _ c.if-packed-eq0.true)

pub returns-else-packed-eq0 : goal.returns-else-packed-eq0
unfolding unpacked_of
returns-else-packed-eq0 c = rw (ne_eqb _ _ c.if-packed-eq0.false)
