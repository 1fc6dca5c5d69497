use Prim.Native.Nat.{ℕ, ◌+◌, ◌-◌, ◌<◌}
use mathlib.Core.Path.{◌≡◌}
use lib.ListN.{length}
use Rattle.runs.specs.Run.{seeks, named_from}
use Rattle.runs.proofs.named.Given as goal

abbrev pub invariant-loop-f : goal.invariant-loop-f
invariant-loop-f l = (k : ℕ) × (length l.octets < l.i + k) × (named_from l.octets l.from l.name ≡ seeks k l.octets l.name l.i)

abbrev pub decreases-loop-f : goal.decreases-loop-f
decreases-loop-f l = length l.octets - l.i
