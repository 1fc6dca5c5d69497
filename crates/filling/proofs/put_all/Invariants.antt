use Prim.Native.Nat.{◌+◌, ◌≤◌}
use mathlib.Core.Path.{◌≡◌}
use lib.ListN.{length, take}
use Rattle.writing.specs.Inside.{Stored}
use Rattle.filling.proofs.put_all.Given as goal

abbrev pub invariant-loop-j : goal.invariant-loop-j
invariant-loop-j l =
    Stored l.initial.out l.at (take l.j l.octets) (l.at + l.j) l.out × (l.j ≤ length l.octets) × (length l.out ≡ length l.initial.out)
