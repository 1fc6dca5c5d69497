use Prim.Native.Nat.{◌-◌}
use lib.ListN.{length}
use Rattle.rights.specs.Tables.{tables}
use Rattle.plans.proofs.Steps.{Going}
use Rattle.checking.proofs.check_plan.Given as goal

abbrev pub invariant-loop-at : goal.invariant-loop-at
invariant-loop-at l =
    Going (tables l.states l.owners l.helpers) l.ticks l.sender l.kind l.plan l.at l.seen

abbrev pub decreases-loop-at : goal.decreases-loop-at
decreases-loop-at l = length l.plan - l.at
