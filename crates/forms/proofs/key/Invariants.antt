use mathlib.Core.Path.{◌≡◌}
use mathlib.Core.Bool.{true}
use lib.ListN.{drop}
use Rattle.forms.specs.Inside.{letters_all, digits_of}
use Rattle.forms.proofs.key.Given as goal

abbrev pub invariant-loop-i : goal.invariant-loop-i
invariant-loop-i l = (l.key ≡ digits_of (drop l.i l.word)) × (letters_all (drop l.i l.word) ≡ true)
