use Prim.Native.Nat.{◌+◌, ◌-◌}
use mathlib.Core.Path.{◌≡◌}
use lib.Seq.{sets}
use Rattle.planning.specs.Planner.{ones}
use Rattle.laying.proofs.put_ones.Given as goal

abbrev pub invariant-loop-octet : goal.invariant-loop-octet
invariant-loop-octet l = sets l.octet-items (0 + l.octet-index) (ones (l.k - l.octet-index) l.left) ≡ sets l.initial.octet-items 0 (ones l.k l.n)
