use mathlib.Core.Path.{◌≡◌}
use lib.ListN.{drop}
use Rattle.printing.specs.Sheet.{sheet, pour}
use Rattle.printing.proofs.put_text.Given as goal

abbrev pub invariant-loop-octet : goal.invariant-loop-octet
invariant-loop-octet l =
    pour (sheet l.out l.next) (drop l.octet-index l.text) ≡ pour (sheet l.initial.out l.at) l.text
