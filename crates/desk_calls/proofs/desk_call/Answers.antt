use Rattle.octets.proofs.Told.{handed_on}
use mathlib.Core.Bool.{not}
use mathlib.Core.Path.{ap}
use mathlib.Core.Path.{sym, ◌∙◌}
use borrow.Author.Tests.{not-true, not-false}
use Rattle.hub.proofs.Desk.{desk-16, desk-9, desk-20, desk-short, desk-done}
use Rattle.desk_calls.proofs.desk_call.Goals as goal

pub returns-then-states-ne-CIRCUITS : goal.returns-then-states-ne-CIRCUITS
returns-then-states-ne-CIRCUITS c = let a = c.args in desk-16 a.states.now a.circuit a.set a.answer.now c.if-states-ne-CIRCUITS.true

pub returns-then-circuit-gt4095 : goal.returns-then-circuit-gt4095
returns-then-circuit-gt4095 c = let a = c.args in desk-9 a.states.now a.circuit a.set a.answer.now c.if-states-ne-CIRCUITS.false c.if-circuit-gt4095.true

pub returns-then-not-legal : goal.returns-then-not-legal
returns-then-not-legal c =
    let a = c.args in
    desk-20 a.states.now a.circuit a.set a.answer.now c.if-states-ne-CIRCUITS.false c.if-circuit-gt4095.false (sym c.legal.ensures ∙ not-true _ (ap not c.if-not-legal.true))

pub returns-in_err-n : goal.returns-in_err-n
returns-in_err-n c =
    rw (handed_on _ _ c.from_residual.ensures.1) (let a = c.args in
    desk-short a.states.now a.circuit a.set a.answer.now c.if-states-ne-CIRCUITS.false c.if-circuit-gt4095.false (sym c.legal.ensures ∙ not-false _ (ap not c.if-not-legal.false)) _ _ c.notice.ensures _ c.in_err-n.was)

pub returns : goal.returns
returns c =
    let a = c.args in
    desk-done a.states.now a.circuit a.set a.answer.now c.if-states-ne-CIRCUITS.false c.if-circuit-gt4095.false (sym c.legal.ensures ∙ not-false _ (ap not c.if-not-legal.false)) _ _ c.notice.ensures _ _ c.in_ok-n.was c.local_block.ensures
