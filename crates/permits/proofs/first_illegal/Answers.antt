use mathlib.Core.Bool.{not}
use mathlib.Core.Path.{sym, ap, ◌∙◌}
use native.Mathlib.Omega.{arith}
use borrow.Author.Tests.{not-true, not-false}
use Rattle.octets.specs.Octet.{octet}
use Rattle.rows.specs.Rows.{is_legal}
use Rattle.rights.proofs.Searches.{search-done, search-ends, search-on}
use Rattle.permits.proofs.first_illegal.Goals as goal

pub returns-then-not-legal : goal.returns-then-not-legal
returns-then-not-legal c =
    let l = c.loop-circuit in
    let a = c.args in
    sym (search-ends (λ k. is_legal (octet a.states.now k)) l.circuit _ (omega arith) (sym c.legal.ensures ∙ not-true _ (ap not c.if-not-legal.true))) ∙ l.invariant

pub loop-circuit-preserved : goal.loop-circuit-preserved
loop-circuit-preserved c =
    let l = c.loop-circuit in
    let a = c.args in
    sym (search-on (λ k. is_legal (octet a.states.now k)) l.circuit _ _ (omega arith) (sym c.legal.ensures ∙ not-false _ (ap not c.if-not-legal.false))) ∙ l.invariant

pub returns : goal.returns
returns c =
    let l = c.loop-circuit in
    let a = c.args in
    sym (search-done (λ k. is_legal (octet a.states.now k)) l.circuit _ (omega arith)) ∙ l.invariant
