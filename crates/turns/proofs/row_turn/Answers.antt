use mathlib.Core.Path.{refl, ◌∙◌, ap}
use Rattle.printing.specs.Sheet.{sheet}
use Rattle.requests.specs.Along.{said_in}
use Rattle.table_lines.specs.Tables.{Left}
use Rattle.plan_lines.specs.Night.{NightLeft}
use Rattle.turns.specs.Turns.{desk_with, desk_from, DeskTurn, desk_left, desk_left_by}
use Rattle.turns.proofs.Determined.{desk-left-same}
use Rattle.turns.proofs.Turned.{row-held, row-night, row-bad}
use Rattle.turns.proofs.row_turn.Goals as goal

pub returns-then-request-lt-TICK : goal.returns-then-request-lt-TICK
returns-then-request-lt-TICK c =
    let a = c.args in
    ap (λ (l : Left). desk_left (desk_with l.tables a.ticks.now) l.sheet) c.answer_request.ensures
    ∙ ap (λ (x : DeskTurn). desk_left_by x (sheet a.out.now 0)) (row-held (desk_from a.states.now a.owners.now a.helpers.now a.totals.now a.ticks.now) a.request.which (said_in a.octets.now a.request.fields) c.if-request-lt-TICK.true)

pub returns-then-request-le-CHECK : goal.returns-then-request-le-CHECK
returns-then-request-le-CHECK c =
    let a = c.args in
    ap (λ (l : NightLeft). desk_left (desk_from a.states.now a.owners.now a.helpers.now a.totals.now l.ticks) l.sheet) c.plan_turn.ensures
    ∙ ap (λ (x : DeskTurn). desk_left_by x (sheet a.out.now 0)) (row-night (desk_from a.states.now a.owners.now a.helpers.now a.totals.now a.ticks.now) a.request.which (said_in a.octets.now a.request.fields) c.if-request-lt-TICK.false c.if-request-le-CHECK.true)

pub returns : goal.returns
returns c =
    let a = c.args in
    desk-left-same refl c.put_text.ensures ∙ ap (λ (x : DeskTurn). desk_left_by x (sheet a.out.now 0)) (row-bad (desk_from a.states.now a.owners.now a.helpers.now a.totals.now a.ticks.now) a.request.which (said_in a.octets.now a.request.fields) c.if-request-lt-TICK.false c.if-request-le-CHECK.false)
