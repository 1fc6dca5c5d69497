use Rattle.rights.specs.Rights.{first_illegal_lem}
use Prim.Native.Nat.{◌+◌, ◌-◌}
use mathlib.Core.Path.{◌≡◌}
use Rattle.permits.proofs.first_illegal.Given as goal

-- what is left has the whole's answer
abbrev pub invariant-loop-circuit : goal.invariant-loop-circuit
invariant-loop-circuit l =
    first_illegal_lem l.states l.circuit (l.circuit-end - l.circuit) ≡ first_illegal_lem l.states l.first (l.range + 1)
