use native.Mathlib.Omega.{arith}
use Rattle.day.specs.Day.{day}
use Rattle.machine.proofs.Told.{head-long, head-none, head-body}
use Rattle.feeding.proofs.take_head.Goals as goal

pub returns-then-size-gt268 : goal.returns-then-size-gt268
returns-then-size-gt268 c =
    let a = c.args in head-long a.left a.sender a.size (day a.owners.now a.states.now a.accepted.now a.refused.now) (omega (arith, c.if-size-gt268.true))

pub returns-then-size-eq0 : goal.returns-then-size-eq0
returns-then-size-eq0 c =
    let a = c.args in head-none a.left a.sender a.size (day a.owners.now a.states.now a.accepted.now a.refused.now) a.nothing.now (omega (arith, c.if-size-gt268.false)) (omega (arith, c.if-size-gt268.false, c.if-size-eq0.true)) c.heard_in.ensures c.requires c.one_less.ensures c.entries_await.ensures

pub returns : goal.returns
returns c =
    let a = c.args in head-body a.left a.sender a.size (day a.owners.now a.states.now a.accepted.now a.refused.now) (omega (arith, c.if-size-gt268.false)) (λ z. c.if-size-eq0.false (omega (arith, z)))
