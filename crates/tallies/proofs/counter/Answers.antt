use mathlib.Core.Path.{refl}
use native.Mathlib.Omega.{arith}
use Rattle.tallies.proofs.counter.Goals as goal

pub overflow_cast-result : goal.overflow_cast-result
overflow_cast-result c = omega (arith, c.type_inv.counters c.args.sender)

pub returns : goal.returns
returns c = (refl, omega (arith, c.type_inv.counters c.args.sender))
