use Rattle.octets.specs.Told.{told}
use mathlib.Core.Bool.{not}
use mathlib.Core.Path.{sym, ◌∙◌, ap}
use borrow.Author.Tests.{not-true, not-false}
use Rattle.asks.proofs.Reading.{ask-sound}
use Rattle.rights.specs.Tables.{tables}
use Rattle.hub.specs.Acts.{judged_of}
use Rattle.plans.proofs.Hub.{judged-asks}
use Rattle.plans.proofs.Steps.{hear-refused, hear-unfit, hear-fit}
use Rattle.checking.proofs.hear.Goals as goal

pub returns-then-not-fit : goal.returns-then-not-fit
returns-then-not-fit c =
    let a = c.args in
    sym (hear-unfit (judged_of (tables a.states.now a.owners.now a.helpers.now) a.sender) a.kind a.seen.now a.message.now _ (sym c.judge.ensures ∙ ap told c.in-Ok.is) (sym c.fit.ensures ∙ not-true _ (ap not c.if-not-fit.true)))

pub see-requires : goal.see-requires
see-requires c =
    let a = c.args in
    ask-sound a.message.now _ (λ i. (c.type_inv.message i).fits)
    (judged-asks (tables a.states.now a.owners.now a.helpers.now) a.sender a.message.now _ (sym c.judge.ensures ∙ ap told c.in-Ok.is))

pub returns-in-Err : goal.returns-in-Err
returns-in-Err c =
    let a = c.args in
    sym (hear-refused (judged_of (tables a.states.now a.owners.now a.helpers.now) a.sender) a.kind a.seen.now a.message.now _ _ (sym c.judge.ensures ∙ ap told c.in-Err.is))

pub returns-else-not-fit : goal.returns-else-not-fit
returns-else-not-fit c =
    let a = c.args in
    c.see.ensures ∙ sym (hear-fit (judged_of (tables a.states.now a.owners.now a.helpers.now) a.sender) a.kind a.seen.now a.message.now _ (sym c.judge.ensures ∙ ap told c.in-Ok.is) (sym c.fit.ensures ∙ not-false _ (ap not c.if-not-fit.false)))
