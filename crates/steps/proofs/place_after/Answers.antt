use mathlib.Core.Logic.{⊎_elim}
use mathlib.Core.Path.{sym, ◌∙◌, ap}
use native.Mathlib.Omega.{arith}
use Rattle.runs.proofs.Steps.{step-says}
use Rattle.family.specs.Steps.{past_by, place_after_lem}
use Rattle.steps.proofs.place_after.Goals as goal

pub overflow_add-result : goal.overflow_add-result
overflow_add-result c = let x = step-says _ _ _ (sym c.step_at.ensures ∙ c.in-Param.is) in omega arith

pub returns-in-Param : goal.returns-in-Param
unfolding place_after_lem
returns-in-Param c = ap (past_by _) (sym c.in-Param.is ∙ c.step_at.ensures)

pub returns-in-Close : goal.returns-in-Close
unfolding place_after_lem
returns-in-Close c =
    ⊎_elim (λ e. ap (past_by _) (sym e ∙ c.step_at.ensures)) (⊎_elim (λ e. ap (past_by _) (sym e ∙ c.step_at.ensures)) (λ e. ap (past_by _) (sym e ∙ c.step_at.ensures))) c.in-Close.is
