use mathlib.Core.Path.{sym, ◌∙◌, ap}
use Rattle.layout.specs.Container.{bit}
use Rattle.nights.proofs.llachurep_check_plan.Goals as goal

pub returns-then-check_plan : goal.returns-then-check_plan
returns-then-check_plan c = ap bit (sym c.if-check_plan.true ∙ c.check_plan.ensures)

pub returns : goal.returns
returns c = ap bit (sym c.if-check_plan.false ∙ c.check_plan.ensures)
