use mathlib.Core.Bool.{not}
use mathlib.Core.Path.{ap}
use mathlib.Core.Path.{◌∙◌}
use native.Mathlib.Omega.{arith}
use native.Mathlib.Nat.{add-sub_cancel_left}
use borrow.Author.Tests.{not-true, not-false}
use Rattle.rights.specs.Tables.{tables}
use Rattle.plans.proofs.Steps.{check-states, check-owners, check-helpers, check-ticks, check-kind, check-walk, going-starts, going-ends, going-cut, going-no, going_on}
use Rattle.checking.proofs.check_plan.Goals as goal

pub returns-then-states-ne-CIRCUITS : goal.returns-then-states-ne-CIRCUITS
returns-then-states-ne-CIRCUITS c = let a = c.args in check-states (tables a.states.now a.owners.now a.helpers.now) a.ticks.now a.sender a.kind a.plan.now c.if-states-ne-CIRCUITS.true

pub returns-then-owners-ne-CIRCUITS : goal.returns-then-owners-ne-CIRCUITS
returns-then-owners-ne-CIRCUITS c = let a = c.args in check-owners (tables a.states.now a.owners.now a.helpers.now) a.ticks.now a.sender a.kind a.plan.now c.if-states-ne-CIRCUITS.false c.if-owners-ne-CIRCUITS.true

pub returns-then-helpers-ne-CIRCUITS : goal.returns-then-helpers-ne-CIRCUITS
returns-then-helpers-ne-CIRCUITS c = let a = c.args in check-helpers (tables a.states.now a.owners.now a.helpers.now) a.ticks.now a.sender a.kind a.plan.now c.if-states-ne-CIRCUITS.false c.if-owners-ne-CIRCUITS.false c.if-helpers-ne-CIRCUITS.true

pub returns-then-ticks-ne-CIRCUITS : goal.returns-then-ticks-ne-CIRCUITS
returns-then-ticks-ne-CIRCUITS c = let a = c.args in check-ticks (tables a.states.now a.owners.now a.helpers.now) a.ticks.now a.sender a.kind a.plan.now c.if-states-ne-CIRCUITS.false c.if-owners-ne-CIRCUITS.false c.if-helpers-ne-CIRCUITS.false c.if-ticks-ne-CIRCUITS.true

pub returns-then-kind-gt1 : goal.returns-then-kind-gt1
returns-then-kind-gt1 c = let a = c.args in check-kind (tables a.states.now a.owners.now a.helpers.now) a.ticks.now a.sender a.kind a.plan.now c.if-states-ne-CIRCUITS.false c.if-owners-ne-CIRCUITS.false c.if-helpers-ne-CIRCUITS.false c.if-ticks-ne-CIRCUITS.false (omega (arith, c.if-kind-gt1.true))

pub loop-at-init : goal.loop-at-init
loop-at-init c = let a = c.args in going-starts (tables a.states.now a.owners.now a.helpers.now) a.ticks.now a.sender a.kind a.plan.now

pub bounds-plan-at : goal.bounds-plan-at
bounds-plan-at c = omega arith

pub overflow_add-start : goal.overflow_add-start
overflow_add-start c = omega arith

pub overflow_sub-plan : goal.overflow_sub-plan
overflow_sub-plan c = omega arith

pub returns-then-plan-start : goal.returns-then-plan-start
returns-then-plan-start c =
    let a = c.args in
    let l = c.loop-at in
    check-walk (tables a.states.now a.owners.now a.helpers.now) a.ticks.now a.sender a.kind a.plan.now c.if-states-ne-CIRCUITS.false c.if-owners-ne-CIRCUITS.false c.if-helpers-ne-CIRCUITS.false c.if-ticks-ne-CIRCUITS.false (omega (arith, c.if-kind-gt1.false))
    _ (going-cut (tables a.states.now a.owners.now a.helpers.now) a.ticks.now a.sender a.kind a.plan.now l.at c.wide-n.result l.seen l.invariant c.loop-at-test.true c.wide-n.ensures.0 (omega (arith, c.if-plan-start.true)))

pub overflow_add-end : goal.overflow_add-end
overflow_add-end c = omega arith

pub slice_bounds-hear-count : goal.slice_bounds-hear-count
slice_bounds-hear-count c = omega arith

pub slice_bounds-hear-start : goal.slice_bounds-hear-start
slice_bounds-hear-start c = omega arith

pub slice_bounds-hear-end : goal.slice_bounds-hear-end
slice_bounds-hear-end c = omega arith

pub returns-then-not-hear : goal.returns-then-not-hear
returns-then-not-hear c =
    let a = c.args in
    let l = c.loop-at in
    let k = c.hear in
    check-walk (tables a.states.now a.owners.now a.helpers.now) a.ticks.now a.sender a.kind a.plan.now c.if-states-ne-CIRCUITS.false c.if-owners-ne-CIRCUITS.false c.if-helpers-ne-CIRCUITS.false c.if-ticks-ne-CIRCUITS.false (omega (arith, c.if-kind-gt1.false))
    _ (going-no (tables a.states.now a.owners.now a.helpers.now) a.ticks.now a.sender a.kind a.plan.now l.at c.wide-n.result l.seen l.invariant c.loop-at-test.true c.wide-n.ensures.0
    k.result _ _ c.if-plan-start.false (rw add-sub_cancel_left) k.ensures (not-true _ (ap not c.if-not-hear.true)))

pub loop-at-smaller : goal.loop-at-smaller
loop-at-smaller c = omega arith

pub loop-at-preserved : goal.loop-at-preserved
loop-at-preserved c =
    let a = c.args in
    let l = c.loop-at in
    let k = c.hear in
    going_on (tables a.states.now a.owners.now a.helpers.now) a.ticks.now a.sender a.kind a.plan.now l.at c.wide-n.result l.seen l.invariant c.loop-at-test.true c.wide-n.ensures.0
    k.result _ _ c.if-plan-start.false (rw add-sub_cancel_left) k.ensures (not-false _ (ap not c.if-not-hear.false))

pub agrees-requires : goal.agrees-requires
agrees-requires c = c.if-ticks-ne-CIRCUITS.false

pub returns : goal.returns
returns c =
    let a = c.args in
    let l = c.loop-at in
    c.agrees.ensures
    ∙ check-walk (tables a.states.now a.owners.now a.helpers.now) a.ticks.now a.sender a.kind a.plan.now c.if-states-ne-CIRCUITS.false c.if-owners-ne-CIRCUITS.false c.if-helpers-ne-CIRCUITS.false c.if-ticks-ne-CIRCUITS.false (omega (arith, c.if-kind-gt1.false))
    _ (going-ends (tables a.states.now a.owners.now a.helpers.now) a.ticks.now a.sender a.kind a.plan.now l.at l.seen l.invariant c.loop-at-test.false)
