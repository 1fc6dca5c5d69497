use native.Mathlib.Omega.{arith}
use Rattle.octets.proofs.Told.{handed_on}
use Rattle.rights.specs.Tables.{tables}
use Rattle.planning.proofs.Laying.{out-states, out-owners, out-helpers, out-ticks, out-kind, out-refused, count-within, out-room, ready, out-plan}
use Rattle.laying.proofs.plan.Goals as goal

pub returns-then-states-ne-CIRCUITS : goal.returns-then-states-ne-CIRCUITS
returns-then-states-ne-CIRCUITS c =
    let a = c.args in
    out-states (tables a.states.now a.owners.now a.helpers.now) a.ticks.now a.sender a.kind a.out.now c.if-states-ne-CIRCUITS.true

pub returns-then-owners-ne-CIRCUITS : goal.returns-then-owners-ne-CIRCUITS
returns-then-owners-ne-CIRCUITS c =
    let a = c.args in
    out-owners (tables a.states.now a.owners.now a.helpers.now) a.ticks.now a.sender a.kind a.out.now c.if-states-ne-CIRCUITS.false c.if-owners-ne-CIRCUITS.true

pub returns-then-helpers-ne-CIRCUITS : goal.returns-then-helpers-ne-CIRCUITS
returns-then-helpers-ne-CIRCUITS c =
    let a = c.args in
    out-helpers (tables a.states.now a.owners.now a.helpers.now) a.ticks.now a.sender a.kind a.out.now c.if-states-ne-CIRCUITS.false c.if-owners-ne-CIRCUITS.false c.if-helpers-ne-CIRCUITS.true

pub returns-then-ticks-ne-CIRCUITS : goal.returns-then-ticks-ne-CIRCUITS
returns-then-ticks-ne-CIRCUITS c =
    let a = c.args in
    out-ticks (tables a.states.now a.owners.now a.helpers.now) a.ticks.now a.sender a.kind a.out.now c.if-states-ne-CIRCUITS.false c.if-owners-ne-CIRCUITS.false c.if-helpers-ne-CIRCUITS.false c.if-ticks-ne-CIRCUITS.true

pub returns-then-kind-gt1 : goal.returns-then-kind-gt1
returns-then-kind-gt1 c =
    let a = c.args in
    out-kind (tables a.states.now a.owners.now a.helpers.now) a.ticks.now a.sender a.kind a.out.now c.if-states-ne-CIRCUITS.false c.if-owners-ne-CIRCUITS.false c.if-helpers-ne-CIRCUITS.false c.if-ticks-ne-CIRCUITS.false c.if-kind-gt1.true

pub overflow_mul-count : goal.overflow_mul-count
overflow_mul-count c =
    let a = c.args in
    omega (arith, count-within (tables a.states.now a.owners.now a.helpers.now) a.ticks.now a.sender a.kind a.out.now c.if-states-ne-CIRCUITS.false c.if-owners-ne-CIRCUITS.false c.if-helpers-ne-CIRCUITS.false c.if-ticks-ne-CIRCUITS.false c.if-kind-gt1.false _ c.survey.ensures _ c.in_ok-count.was)

pub returns-then-out-count : goal.returns-then-out-count
returns-then-out-count c =
    let a = c.args in
    out-room (tables a.states.now a.owners.now a.helpers.now) a.ticks.now a.sender a.kind a.out.now c.if-states-ne-CIRCUITS.false c.if-owners-ne-CIRCUITS.false c.if-helpers-ne-CIRCUITS.false c.if-ticks-ne-CIRCUITS.false c.if-kind-gt1.false _ c.survey.ensures _ c.in_ok-count.was c.if-out-count.true

pub lay-requires : goal.lay-requires
lay-requires c =
    let a = c.args in
    ready (tables a.states.now a.owners.now a.helpers.now) a.ticks.now a.sender a.kind a.out.now c.if-states-ne-CIRCUITS.false c.if-owners-ne-CIRCUITS.false c.if-helpers-ne-CIRCUITS.false c.if-ticks-ne-CIRCUITS.false c.if-kind-gt1.false _ c.survey.ensures _ c.in_ok-count.was c.if-out-count.false

pub returns-in_err-count : goal.returns-in_err-count
returns-in_err-count c =
    let a = c.args in
    rw (handed_on _ _ c.from_residual.ensures.1) (out-refused (tables a.states.now a.owners.now a.helpers.now) a.ticks.now a.sender a.kind a.out.now c.if-states-ne-CIRCUITS.false c.if-owners-ne-CIRCUITS.false c.if-helpers-ne-CIRCUITS.false c.if-ticks-ne-CIRCUITS.false c.if-kind-gt1.false _ c.survey.ensures _ c.in_err-count.was)

pub returns : goal.returns
returns c =
    let a = c.args in
    out-plan (tables a.states.now a.owners.now a.helpers.now) a.ticks.now a.sender a.kind a.out.now c.if-states-ne-CIRCUITS.false c.if-owners-ne-CIRCUITS.false c.if-helpers-ne-CIRCUITS.false c.if-ticks-ne-CIRCUITS.false c.if-kind-gt1.false _ c.survey.ensures _ c.in_ok-count.was c.if-out-count.false _ _ c.lay.ensures.0 c.lay.ensures.1
