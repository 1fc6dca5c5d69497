use Prim.Native.Nat.{◌-◌}
use mathlib.Core.Path.{◌≡◌}
use lib.ListN.{length}
use Rattle.printing.specs.Sheet.{sheet, pour}
use Rattle.day.specs.Day.{day}
use Rattle.tallies.specs.Lines.{added, lines_from, sums_from, Below}
use Rattle.tallies.specs.Reports.{tally_in_lem}
use Rattle.tallies.proofs.put_lines.Given as goal

abbrev pub invariant-loop-sender : goal.invariant-loop-sender
invariant-loop-sender l =
    (length l.out ≡ length l.initial.out) × Below l.sums l.sender
    × (pour (sheet l.out l.next) (lines_from (tally_in_lem (day l.owners l.states l.accepted l.refused)) l.sender (256 - l.sender)) ≡ pour (sheet l.initial.out 0) (lines_from (tally_in_lem (day l.owners l.states l.accepted l.refused)) 0 256))
    × (added l.sums (sums_from (tally_in_lem (day l.owners l.states l.accepted l.refused)) l.sender (256 - l.sender)) ≡ sums_from (tally_in_lem (day l.owners l.states l.accepted l.refused)) 0 256)
