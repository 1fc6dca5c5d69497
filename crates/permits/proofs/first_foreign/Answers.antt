use mathlib.Core.Bool.{not}
use mathlib.Core.Path.{ap}
use Rattle.rights.proofs.Searches.{search-done, search-ends, search-on}
use Rattle.rights.specs.Rights.{has_right}
use borrow.Author.Tests.{not-true, not-false}
use native.Mathlib.Nat.{add_assoc, add-sub_cancel_left}
use mathlib.Core.Path.{sym, ◌∙◌}
use native.Mathlib.Omega.{arith}
use Rattle.permits.proofs.first_foreign.Goals as goal

pub overflow_add-last : goal.overflow_add-last
overflow_add-last c = omega arith

pub loop-circuit-init : goal.loop-circuit-init
loop-circuit-init c = (omega arith, rw (add_assoc, add-sub_cancel_left))

pub right-requires : goal.right-requires
right-requires c = (omega arith, omega arith)

pub overflow_add-circuit : goal.overflow_add-circuit
overflow_add-circuit c = omega arith

pub loop-circuit-smaller : goal.loop-circuit-smaller
loop-circuit-smaller c = omega arith

pub loop-circuit-preserved : goal.loop-circuit-preserved
loop-circuit-preserved c =
    let l = c.loop-circuit in
    let a = c.args in
    (omega arith, sym (search-on (has_right a.owners.now a.helpers.now a.sender) l.circuit _ _ (omega arith) (sym c.right.ensures ∙ not-false _ (ap not c.if-not-right.false))) ∙ l.invariant.1)

pub returns-then-circuit-last : goal.returns-then-circuit-last
returns-then-circuit-last c =
    let l = c.loop-circuit in
    let a = c.args in
    sym (search-done (has_right a.owners.now a.helpers.now a.sender) l.circuit _ (omega arith)) ∙ l.invariant.1

pub returns-then-not-right : goal.returns-then-not-right
returns-then-not-right c =
    let l = c.loop-circuit in
    let a = c.args in
    sym (search-ends (has_right a.owners.now a.helpers.now a.sender) l.circuit _ (omega arith) (sym c.right.ensures ∙ not-true _ (ap not c.if-not-right.true))) ∙ l.invariant.1
