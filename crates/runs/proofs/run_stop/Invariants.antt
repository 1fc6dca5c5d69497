use Prim.Native.Nat.{ℕ, ◌+◌, ◌-◌, ◌<◌}
use mathlib.Core.Path.{◌≡◌}
use lib.ListN.{length}
use Rattle.runs.specs.Run.{stops, stop_from}
use Rattle.runs.proofs.run_stop.Given as goal

abbrev pub invariant-loop-f : goal.invariant-loop-f
invariant-loop-f l = (k : ℕ) × (length l.octets < l.i + k) × (stop_from l.octets l.from ≡ stops k l.octets l.i)

abbrev pub decreases-loop-f : goal.decreases-loop-f
decreases-loop-f l = length l.octets - l.i
