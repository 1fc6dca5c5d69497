use mathlib.Core.Path.{refl, sym, ◌∙◌, ap}
use lib.ListN.{length}
use Rattle.printing.specs.Sheet.{sheet}
use Rattle.turns.specs.Turns.{desk_from, DeskTurn, desk_left_by}
use Rattle.turns.proofs.Determined.{desk-left-same}
use Rattle.answers.proofs.Turned.{turn-scratch, turn-unsized, turn-asked}
use Rattle.answers.proofs.answer_line.Goals as goal

pub returns-then-scratch-lt-SCRATCH_LEAST : goal.returns-then-scratch-lt-SCRATCH_LEAST
returns-then-scratch-lt-SCRATCH_LEAST c =
    let a = c.args in
    desk-left-same refl c.put_text.ensures ∙ ap (λ (x : DeskTurn). desk_left_by x (sheet a.out.now 0)) (turn-scratch a.line.now (length a.scratch.now) (desk_from a.states.now a.owners.now a.helpers.now a.totals.now a.ticks.now) c.if-scratch-lt-SCRATCH_LEAST.true)

pub returns-then-sized : goal.returns-then-sized
returns-then-sized c =
    let a = c.args in
    c.row_turn.ensures
    ∙ ap (λ (x : DeskTurn). desk_left_by x (sheet a.out.now 0)) (turn-asked a.line.now a.scratch.now _ _ c.request_of-request.ensures c.if-scratch-lt-SCRATCH_LEAST.false (desk_from a.states.now a.owners.now a.helpers.now a.totals.now a.ticks.now) (sym c.sized.ensures ∙ c.if-sized.true))

pub returns : goal.returns
returns c =
    let a = c.args in
    desk-left-same refl (rw c.number.ensures at c.say_refusal.ensures) ∙ ap (λ (x : DeskTurn). desk_left_by x (sheet a.out.now 0)) (turn-unsized a.line.now (length a.scratch.now) (desk_from a.states.now a.owners.now a.helpers.now a.totals.now a.ticks.now) c.if-scratch-lt-SCRATCH_LEAST.false (sym c.sized.ensures ∙ c.if-sized.false))
