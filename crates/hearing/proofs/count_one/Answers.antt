use mathlib.Core.Path.{sym}
use native.Mathlib.Omega.{arith}
use Rattle.octets.proofs.Applied.{set_beyond}
use Rattle.hearing.proofs.count_one.Goals as goal

pub overflow_cast-counters : goal.overflow_cast-counters
overflow_cast-counters c = omega (arith, c.slice_known-1.given c.args.sender)

pub overflow_add-counters : goal.overflow_add-counters
overflow_add-counters c = omega (arith, c.slice_known-1.given c.args.sender)

pub returns-else-at-counters : goal.returns-else-at-counters
returns-else-at-counters c = sym (set_beyond _ _ _ c.if-at-counters.false)
