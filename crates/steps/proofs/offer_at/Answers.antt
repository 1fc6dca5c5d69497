use mathlib.Core.Logic.{⊎_elim}
use mathlib.Core.Path.{sym, ◌∙◌, ap}
use Rattle.family.specs.Steps.{offer_by, offer_at_lem}
use Rattle.steps.proofs.offer_at.Goals as goal

pub returns-in-Param : goal.returns-in-Param
unfolding offer_at_lem
returns-in-Param c = ap offer_by (sym c.in-Param.is ∙ c.step_at.ensures)

pub returns-in-Close : goal.returns-in-Close
unfolding offer_at_lem
returns-in-Close c =
    ⊎_elim (λ e. ap offer_by (sym e ∙ c.step_at.ensures)) (⊎_elim (λ e. ap offer_by (sym e ∙ c.step_at.ensures)) (λ e. ap offer_by (sym e ∙ c.step_at.ensures))) c.in-Close.is
