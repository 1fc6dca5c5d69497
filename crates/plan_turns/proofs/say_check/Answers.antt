use mathlib.Core.Path.{sym, ◌∙◌, ap}
use mathlib.Core.Bool.{Bool}
use Rattle.printing.specs.Sheet.{sheet, pour}
use Rattle.plan_lines.specs.Night.{checked_line}
use Rattle.plan_turns.proofs.say_check.Goals as goal

pub returns-then-check_plan : goal.returns-then-check_plan
unfolding checked_line
returns-then-check_plan c =
    let a = c.args in
    c.put_text.ensures ∙ ap (λ (b : Bool). pour (sheet a.out.now 0) (checked_line b)) (sym c.if-check_plan.true ∙ c.check_plan.ensures)

pub returns : goal.returns
unfolding checked_line
returns c =
    let a = c.args in
    c.put_text-2.ensures ∙ ap (λ (b : Bool). pour (sheet a.out.now 0) (checked_line b)) (sym c.if-check_plan.false ∙ c.check_plan.ensures)
