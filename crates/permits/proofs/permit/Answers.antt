use mathlib.Core.Path.{◌∙◌}
use native.Mathlib.Omega.{arith}
use Rattle.rights.specs.Tables.{tables}
use Rattle.rights.proofs.Given.{permit-states, permit-owners, permit-helpers, permit-passes, permitted-inside}
use Rattle.permits.proofs.permit.Goals as goal

pub returns-then-states-ne-CIRCUITS : goal.returns-then-states-ne-CIRCUITS
returns-then-states-ne-CIRCUITS c =
    let a = c.args in
    permit-states (tables a.states.now a.owners.now a.helpers.now) a.sender a.ask c.if-states-ne-CIRCUITS.true

pub returns-then-owners-ne-CIRCUITS : goal.returns-then-owners-ne-CIRCUITS
returns-then-owners-ne-CIRCUITS c =
    let a = c.args in
    permit-owners (tables a.states.now a.owners.now a.helpers.now) a.sender a.ask c.if-states-ne-CIRCUITS.false c.if-owners-ne-CIRCUITS.true

pub returns-then-helpers-ne-CIRCUITS : goal.returns-then-helpers-ne-CIRCUITS
returns-then-helpers-ne-CIRCUITS c =
    let a = c.args in
    permit-helpers (tables a.states.now a.owners.now a.helpers.now) a.sender a.ask c.if-states-ne-CIRCUITS.false c.if-owners-ne-CIRCUITS.false c.if-helpers-ne-CIRCUITS.true

pub returns-then-circuit-gt4095 : goal.returns-then-circuit-gt4095
returns-then-circuit-gt4095 c =
    let a = c.args in
    permit-passes (tables a.states.now a.owners.now a.helpers.now) a.sender a.ask c.if-states-ne-CIRCUITS.false c.if-owners-ne-CIRCUITS.false c.if-helpers-ne-CIRCUITS.false (omega (arith, c.if-circuit-gt4095.true))

pub returns-then-ask-circuit : goal.returns-then-ask-circuit
returns-then-ask-circuit c =
    let a = c.args in
    permit-passes (tables a.states.now a.owners.now a.helpers.now) a.sender a.ask c.if-states-ne-CIRCUITS.false c.if-owners-ne-CIRCUITS.false c.if-helpers-ne-CIRCUITS.false (omega (arith, c.if-circuit-gt4095.false, c.if-ask-circuit.true))

pub returns : goal.returns
returns c =
    let a = c.args in
    c.permit_inside.ensures
    ∙ permitted-inside (tables a.states.now a.owners.now a.helpers.now) a.sender a.ask c.if-states-ne-CIRCUITS.false c.if-owners-ne-CIRCUITS.false c.if-helpers-ne-CIRCUITS.false (omega (arith, c.if-circuit-gt4095.false, c.if-ask-circuit.false))
