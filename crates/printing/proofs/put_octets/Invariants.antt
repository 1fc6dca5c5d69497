use mathlib.Core.Path.{◌≡◌}
use lib.ListN.{drop}
use Rattle.printing.specs.Sheet.{sheet, pour}
use Rattle.printing.specs.Shown.{hex_pairs}
use Rattle.printing.proofs.put_octets.Given as goal

abbrev pub invariant-loop-octet : goal.invariant-loop-octet
invariant-loop-octet l =
    pour (sheet l.out l.next) (hex_pairs (drop l.octet-index l.octets)) ≡ pour (sheet l.initial.out l.at) (hex_pairs l.octets)
