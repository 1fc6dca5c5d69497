use native.Mathlib.Omega.{arith}
use Rattle.octets.proofs.Tests.{tests}
use Rattle.reading.proofs.variable_from.Goals as goal

pub overflow_cast-to : goal.overflow_cast-to
overflow_cast-to c = omega (arith, c.type_inv.octets c.args.t)

pub overflow_add-to-2 : goal.overflow_add-to-2
overflow_add-to-2 c = omega (arith, c.type_inv.octets c.args.t)

pub returns-then-octets-to : goal.returns-then-octets-to
returns-then-octets-to c = search tests

pub returns : goal.returns
returns c = search tests
