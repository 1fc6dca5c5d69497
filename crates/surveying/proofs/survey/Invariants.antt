use Prim.Native.Nat.{◌-◌, ◌≤◌}
use mathlib.Core.Path.{◌≡◌}
use Rattle.plans.specs.Plans.{ticked}
use Rattle.plans.specs.Turns.{may_block_lem}
use Rattle.surveys.specs.Surveys.{survey_of}
use Rattle.surveys.proofs.Looks.{survey_from}
use Rattle.surveying.proofs.survey.Given as goal

-- what is left has the whole's answer
abbrev pub invariant-loop-c : goal.invariant-loop-c
invariant-loop-c l =
    (l.n ≤ l.c)
    × (survey_from l.states l.kind (may_block_lem l.kind l.owners l.helpers l.sender) (ticked l.ticks) l.stuck l.n l.c (4096 - l.c) ≡ survey_of l.states l.kind (may_block_lem l.kind l.owners l.helpers l.sender) (ticked l.ticks))
