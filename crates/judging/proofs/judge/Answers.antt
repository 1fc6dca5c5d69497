use Rattle.octets.proofs.Told.{handed_on}
use Rattle.octets.specs.Told.{told}
use Rattle.rights.specs.Tables.{tables}
use Rattle.rights.proofs.Given.{permitted-inside}
use Rattle.hub.proofs.Given.{judged-refused, judged-asked}
use Rattle.asks.proofs.Reading.{ask-sound}
use Rattle.hub.specs.Acts.{judged_of}
use mathlib.Core.Path.{sym, ap, ◌∙◌}
use borrow.Author.Tests.{ne_eqb, eq-eqb}
use Rattle.judging.proofs.judge.Goals as goal

pub returns-then-states-ne-CIRCUITS : goal.returns-then-states-ne-CIRCUITS
unfolding judged_of
returns-then-states-ne-CIRCUITS c = rw (ne_eqb _ _ c.if-states-ne-CIRCUITS.true)

pub returns-then-owners-ne-CIRCUITS : goal.returns-then-owners-ne-CIRCUITS
unfolding judged_of
returns-then-owners-ne-CIRCUITS c = rw (eq-eqb _ _ c.if-states-ne-CIRCUITS.false, ne_eqb _ _ c.if-owners-ne-CIRCUITS.true)

pub returns-then-helpers-ne-CIRCUITS : goal.returns-then-helpers-ne-CIRCUITS
unfolding judged_of
returns-then-helpers-ne-CIRCUITS c = rw (eq-eqb _ _ c.if-states-ne-CIRCUITS.false, eq-eqb _ _ c.if-owners-ne-CIRCUITS.false, ne_eqb _ _ c.if-helpers-ne-CIRCUITS.true)

pub returns-in_err-ask : goal.returns-in_err-ask
returns-in_err-ask c =
    rw (handed_on _ _ c.from_residual.ensures.1) (let a = c.args in judged-refused (tables a.states.now a.owners.now a.helpers.now) a.sender a.message.now c.if-states-ne-CIRCUITS.false c.if-owners-ne-CIRCUITS.false c.if-helpers-ne-CIRCUITS.false _ c.decode.ensures _ c.in_err-ask.was)

pub returns : goal.returns
returns c =
    let a = c.args in
    let s = c.if-states-ne-CIRCUITS.false in
    let o = c.if-owners-ne-CIRCUITS.false in
    let h = c.if-helpers-ne-CIRCUITS.false in
    let sound = ask-sound a.message.now _ (λ i. (c.type_inv.message i).fits) (sym c.decode.ensures ∙ ap told c.in_ok-ask.was) in
    c.permit.ensures
    ∙ sym (permitted-inside (tables a.states.now a.owners.now a.helpers.now) a.sender _ s o h sound.last)
    ∙ judged-asked (tables a.states.now a.owners.now a.helpers.now) a.sender a.message.now s o h _ c.decode.ensures _ c.in_ok-ask.was
