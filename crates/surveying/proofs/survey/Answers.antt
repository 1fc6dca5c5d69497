use mathlib.Core.Bool.{not}
use Prim.Native.Nat.{◌+◌, ◌-◌}
use mathlib.Core.Path.{sym, ◌∙◌, ap}
use native.Mathlib.Omega.{arith}
use borrow.Author.Tests.{not-true, not-false}
use Rattle.rows.specs.Rows.{is_legal}
use Rattle.plans.specs.Plans.{ticked}
use Rattle.plans.specs.Turns.{may_block_lem}
use Rattle.surveys.proofs.Looks.{pass-starts, pass-stuck, pass-ticked, pass-illegal, pass_on, pass-tick, not-ticked, is-ticked}
use Rattle.surveying.proofs.survey.Goals as goal
use Rattle.surveying.proofs.survey.Goals.{then-octet_at-ne0, else-octet_at-ne0}

pub loop-c-init : goal.loop-c-init
loop-c-init c =
    let a = c.args in
    (omega arith, pass-starts a.states.now a.kind (may_block_lem a.kind a.owners.now a.helpers.now a.sender) (ticked a.ticks.now))

pub returns-then-not-legal : goal.returns-then-not-legal
returns-then-not-legal c =
    let l = c.loop-c in
    let a = c.args in
    let e = ap is_legal (sym c.octet_at.ensures) ∙ sym c.legal.ensures ∙ not-true _ (ap not c.if-not-legal.true) in
    sym (pass-illegal a.states.now a.kind (may_block_lem a.kind a.owners.now a.helpers.now a.sender) (ticked a.ticks.now) l.stuck l.n l.c (4096 - l.c) (omega arith) e) ∙ l.invariant.1

pub loop-c-preserved : goal.loop-c-preserved
loop-c-preserved c =
    let l = c.loop-c in
    let a = c.args in
    let can = may_block_lem a.kind a.owners.now a.helpers.now a.sender in
    let at = c.octet_at-in-loop-c.ensures in
    let e = ap is_legal (sym c.octet_at.ensures) ∙ sym c.legal.ensures ∙ not-false _ (ap not c.if-not-legal.false) in
    elim c.if-octet_at-ne0.branch [ then-octet_at-ne0 w ↦ rw (w.stuck-is, w.n-is) (omega arith, sym (pass-tick a.states.now a.kind can (ticked a.ticks.now) l.stuck l.n l.c (4096 - l.c) (4096 - (l.c + 1)) (omega arith) e w.stuck_with-stuck.result (is-ticked a.ticks.now l.c (λ z. w.if-octet_at-ne0.true (at ∙ z))) w.stuck_with-stuck.ensures) ∙ l.invariant.1) | else-octet_at-ne0 w ↦ rw (w.stuck-is, w.n-is) (omega arith, sym (pass_on a.states.now a.kind can (ticked a.ticks.now) l.stuck l.n l.c (4096 - l.c) (4096 - (l.c + 1)) (omega arith) e (not-ticked a.ticks.now l.c (sym at ∙ w.if-octet_at-ne0.false))) ∙ l.invariant.1) ]

pub returns-then-stuck : goal.returns-then-stuck
returns-then-stuck c =
    let l = c.loop-c in
    let a = c.args in
    sym (pass-stuck a.states.now a.kind (may_block_lem a.kind a.owners.now a.helpers.now a.sender) (ticked a.ticks.now) l.stuck l.n l.c (4096 - l.c) (omega arith) c.if-stuck.true) ∙ l.invariant.1

pub returns : goal.returns
returns c =
    let l = c.loop-c in
    let a = c.args in
    sym (pass-ticked a.states.now a.kind (may_block_lem a.kind a.owners.now a.helpers.now a.sender) (ticked a.ticks.now) l.stuck l.n l.c (4096 - l.c) (omega arith) c.if-stuck.false) ∙ l.invariant.1
