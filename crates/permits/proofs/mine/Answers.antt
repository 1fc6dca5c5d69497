use borrow.Author.Tests.{eq-eqb}
use mathlib.Core.Path.{refl}
use Rattle.octets.proofs.Tests.{tests}
use native.Mathlib.Omega.{arith}
use Rattle.permits.proofs.mine.Goals as goal

pub returns-then-sender-eq0 : goal.returns-then-sender-eq0
returns-then-sender-eq0 c = rw (eq-eqb c.args.sender 0 c.if-sender-eq0.true) refl

pub overflow_cast-result : goal.overflow_cast-result
overflow_cast-result c = omega (arith, c.type_inv.table c.args.circuit)

pub returns : goal.returns
returns c = search tests
