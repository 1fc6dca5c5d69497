use mathlib.Core.Path.{sym, ◌∙◌, ap}
use native.Mathlib.Omega.{arith}
use Rattle.layout.specs.Container.{closed, run_from}
use Rattle.runs.proofs.Runs.{from-stop}
use Rattle.reading.proofs.run_from.Goals as goal

pub overflow_add-result : goal.overflow_add-result
overflow_add-result c = let x = from-stop _ _ _ (sym c.run_stop.ensures ∙ c.in-Closed.is) in omega (arith, x.2.0)

pub returns-in-Closed : goal.returns-in-Closed
unfolding run_from
returns-in-Closed c = ap (closed _) (sym c.in-Closed.is ∙ c.run_stop.ensures)

pub returns-in-Ended : goal.returns-in-Ended
unfolding run_from
returns-in-Ended c = ap (closed _) (sym c.in-Ended.is ∙ c.run_stop.ensures)

pub returns-in-Passed : goal.returns-in-Passed
unfolding run_from
returns-in-Passed c = ap (closed _) (sym c.in-Passed.is ∙ c.run_stop.ensures)
