use Rattle.layout.specs.Container.{target}
use borrow.Author.Tests.{lt-ltb}
use mathlib.Core.Path.{refl}
use native.Mathlib.Omega.{arith}
use Rattle.octets.proofs.Tests.{tests}
use Rattle.reading.proofs.target_of.Goals as goal

pub overflow_cast-t : goal.overflow_cast-t
overflow_cast-t c = omega (arith, c.type_inv.octets c.args.p)

pub overflow_add-t : goal.overflow_add-t
overflow_add-t c = omega (arith, c.type_inv.octets c.args.p)

pub returns-then-t-end : goal.returns-then-t-end
returns-then-t-end c = let a = c.args in rw (lt-ltb (target a.octets.now a.p) a.end c.if-t-end.true) refl

pub returns-then-octets-t : goal.returns-then-octets-t
returns-then-octets-t c = search tests

pub returns : goal.returns
returns c = search tests
