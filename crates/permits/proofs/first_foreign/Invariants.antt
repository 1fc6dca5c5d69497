use Rattle.rights.specs.Rights.{first_foreign_lem}
use Prim.Native.Nat.{◌+◌, ◌-◌, ◌≤◌}
use mathlib.Core.Path.{◌≡◌}
use Rattle.permits.proofs.first_foreign.Given as goal

abbrev pub invariant-loop-circuit : goal.invariant-loop-circuit
invariant-loop-circuit l =
    (l.circuit ≤ l.last + 1) × (first_foreign_lem l.owners l.helpers l.sender l.circuit (l.last + 1 - l.circuit) ≡ first_foreign_lem l.owners l.helpers l.sender l.first (l.range + 1))

abbrev pub decreases-loop-circuit : goal.decreases-loop-circuit
decreases-loop-circuit l = l.last + 1 - l.circuit
