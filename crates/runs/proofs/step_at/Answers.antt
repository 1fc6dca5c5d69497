use mathlib.Core.Path.{sym}
use native.Mathlib.Omega.{arith}
use Rattle.octets.proofs.Tests.{tests}
use Prim.Native.Nat.{◌+◌, ◌<◌}
use lib.ListN.{length}
use Rattle.runs.specs.Run.{next, step_at_lem}
use Rattle.runs.proofs.Steps.{at-param}
use Rattle.runs.proofs.step_at.Goals as goal

pub returns-then-octets-i : goal.returns-then-octets-i
unfolding step_at_lem
returns-then-octets-i c = search tests

pub returns-then-name-eq0 : goal.returns-then-name-eq0
unfolding step_at_lem
returns-then-name-eq0 c = search tests

pub returns-then-octets-at : goal.returns-then-octets-at
unfolding step_at_lem
returns-then-octets-at c = let a = c.args in
    let h : length a.octets.now < next a.octets.now a.i = omega arith in
    search tests

pub overflow_cast-len : goal.overflow_cast-len
overflow_cast-len c = omega (arith, c.type_inv.octets (c.args.i + 1))

pub overflow_add-at-2 : goal.overflow_add-at-2
overflow_add-at-2 c = omega (arith, c.type_inv.octets (c.args.i + 1))

pub returns-then-octets-at-2 : goal.returns-then-octets-at-2
unfolding step_at_lem
returns-then-octets-at-2 c = search tests

pub returns : goal.returns
returns c = let a = c.args in sym (at-param a.octets.now a.i c.if-name-eq0.false (omega arith))
