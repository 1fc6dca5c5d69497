use Rattle.octets.proofs.Told.{handed_on}
use Rattle.std.specs.Prelude.{is_some}
use Rattle.rights.specs.Tables.{tables}
use Rattle.rights.proofs.Given.{permit-against, none-against, permit-illegal, permit-taken, permit-all}
use mathlib.Core.Path.{sym, ap, ◌∙◌}
use Rattle.permits.proofs.permit_inside.Goals as goal

pub returns-in_err-against : goal.returns-in_err-against
returns-in_err-against c =
    let a = c.args in
    rw (handed_on _ _ c.from_residual.ensures.1) (permit-against (tables a.states.now a.owners.now a.helpers.now) a.sender a.ask _ _ c.in_err-against.ensures)

pub returns-then-is_some : goal.returns-then-is_some
returns-then-is_some c =
    let a = c.args in
    let n = none-against (tables a.states.now a.owners.now a.helpers.now) a.sender a.ask c.in_ok-against.ensures in
    permit-illegal (tables a.states.now a.owners.now a.helpers.now) a.sender a.ask n.0 n.1 (sym (c.is_some.ensures ∙ ap is_some c.first_illegal.ensures) ∙ c.if-is_some.true)

pub returns-then-taken : goal.returns-then-taken
returns-then-taken c =
    let a = c.args in
    let n = none-against (tables a.states.now a.owners.now a.helpers.now) a.sender a.ask c.in_ok-against.ensures in
    permit-taken (tables a.states.now a.owners.now a.helpers.now) a.sender a.ask n.0 n.1 (sym (c.is_some.ensures ∙ ap is_some c.first_illegal.ensures) ∙ c.if-is_some.false) (sym c.taken.ensures ∙ c.if-taken.true)

pub returns : goal.returns
returns c =
    let a = c.args in
    let n = none-against (tables a.states.now a.owners.now a.helpers.now) a.sender a.ask c.in_ok-against.ensures in
    permit-all (tables a.states.now a.owners.now a.helpers.now) a.sender a.ask n.0 n.1 (sym (c.is_some.ensures ∙ ap is_some c.first_illegal.ensures) ∙ c.if-is_some.false) (sym c.taken.ensures ∙ c.if-taken.false)
