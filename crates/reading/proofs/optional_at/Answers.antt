use borrow.Author.Tests.{eq-eqb}
use Rattle.layout.specs.Container.{optional_at_lem}
use Rattle.reading.proofs.optional_at.Goals as goal

pub returns-then-octets-p-eq0 : goal.returns-then-octets-p-eq0
unfolding optional_at_lem
returns-then-octets-p-eq0 c = simp (eq-eqb _ _ c.if-octets-p-eq0.true)
