use Prim.Native.Nat.{◌+◌, ◌-◌}
use mathlib.Core.Path.{◌≡◌}
use Rattle.plans.specs.Check.{seeing}
use Rattle.plans.proofs.Steps.{marking}
use Rattle.checking.proofs.see.Given as goal

-- what is left has the whole's answer
abbrev pub invariant-loop-i : goal.invariant-loop-i
invariant-loop-i l =
    seeing (marking l.message l.circuit l.status) (l.circuit + l.i) (l.i-end - l.i) l.seen ≡ seeing (marking l.message l.circuit l.status) l.circuit (l.range + 1) l.initial.seen
