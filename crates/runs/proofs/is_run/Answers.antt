use mathlib.Core.Path.{sym, ◌∙◌, ap}
use Rattle.runs.specs.Run.{ended, is_run_lem}
use Rattle.runs.proofs.is_run.Goals as goal

pub returns-in-Closed : goal.returns-in-Closed
unfolding is_run_lem
returns-in-Closed c = ap ended (sym c.in-Closed.is ∙ c.run_stop.ensures)

pub returns-in-Ended : goal.returns-in-Ended
unfolding is_run_lem
returns-in-Ended c = ap ended (sym c.in-Ended.is ∙ c.run_stop.ensures)

pub returns-in-Passed : goal.returns-in-Passed
unfolding is_run_lem
returns-in-Passed c = ap ended (sym c.in-Passed.is ∙ c.run_stop.ensures)
