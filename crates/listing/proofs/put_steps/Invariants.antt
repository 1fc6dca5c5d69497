use Prim.Native.Nat.{ℕ, ◌+◌, ◌-◌, ◌≤◌}
use mathlib.Core.Path.{◌≡◌}
use lib.ListN.{length}
use Rattle.family.specs.Steps.{steps_from}
use Rattle.printing.specs.Sheet.{sheet, pour}
use Rattle.list_lines.specs.Lists.{steps_text}
use Rattle.listing.proofs.put_steps.Given as goal

abbrev pub invariant-loop-f : goal.invariant-loop-f
invariant-loop-f l =
    (k : ℕ) × (length l.message ≤ k + l.place) × (length l.out ≡ length l.initial.out)
    × (pour (sheet l.out l.next) (steps_text l.message (steps_from k l.message l.place)) ≡ pour (sheet l.initial.out l.at) (steps_text l.message (steps_from (length l.message) l.message l.start)))

abbrev pub decreases-loop-f : goal.decreases-loop-f
decreases-loop-f l = length l.message - l.place
