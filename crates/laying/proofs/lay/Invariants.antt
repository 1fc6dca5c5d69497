use Prim.Native.Nat.{◌-◌}
use Rattle.planning.proofs.Laying.{Laying}
use Rattle.laying.proofs.lay.Given as goal

abbrev pub invariant-loop-c : goal.invariant-loop-c
invariant-loop-c l = Laying l.owners l.helpers l.ticks l.sender l.kind l.initial.out l.out l.c l.at

abbrev pub decreases-loop-c : goal.decreases-loop-c
decreases-loop-c l = 4096 - l.c
