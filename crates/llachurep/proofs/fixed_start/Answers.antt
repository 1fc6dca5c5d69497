use borrow.Author.Tests.{eq-eqb, ne_eqb}
use Rattle.llachurep.proofs.fixed_start.Goals as goal

pub returns-then-span : goal.returns-then-span
returns-then-span c = simp (eq-eqb _ _ c.if-span.true)

pub returns : goal.returns
returns c = simp (ne_eqb _ _ c.if-span.false)
