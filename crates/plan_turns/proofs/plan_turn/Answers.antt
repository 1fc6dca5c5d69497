use mathlib.Core.Path.{refl}
use borrow.Author.Tests.{eq-eqb, ne_eqb}
use Rattle.requests.proofs.Said.{number-at, octets-at}
use Rattle.plan_lines.specs.Night.{night_done}
use Rattle.plan_lines.proofs.Determined.{night-left-same}
use Rattle.plan_turns.proofs.plan_turn.Goals as goal

pub returns-then-request-eq-TICK : goal.returns-then-request-eq-TICK
unfolding night_done
returns-then-request-eq-TICK c =
    let a = c.args in
    let s = a.octets.now in
    let f = a.request.fields in
    rw (eq-eqb _ _ c.if-request-eq-TICK.true, number-at s f 0, number-at s f 1, number-at s f 2) (night-left-same c.spread_said.ensures.0 c.spread_said.ensures.1)

pub returns-then-request-eq-PLAN : goal.returns-then-request-eq-PLAN
unfolding night_done
returns-then-request-eq-PLAN c =
    let a = c.args in
    let s = a.octets.now in
    let f = a.request.fields in
    rw (ne_eqb _ _ c.if-request-eq-TICK.false, eq-eqb _ _ c.if-request-eq-PLAN.true, number-at s f 0, number-at s f 1, number-at s f 2) (night-left-same refl c.say_plan.ensures)

pub returns : goal.returns
unfolding night_done
returns c =
    let a = c.args in
    let s = a.octets.now in
    let f = a.request.fields in
    rw (ne_eqb _ _ c.if-request-eq-TICK.false, ne_eqb _ _ c.if-request-eq-PLAN.false, number-at s f 0, number-at s f 1, octets-at s f 2) (night-left-same refl (rw c.stretch.ensures at c.say_check.ensures))
