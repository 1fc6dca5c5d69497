use Rattle.words.specs.Words.{digits_from, number_of}
use lib.ListN.{drop}
use mathlib.Core.Path.{◌≡◌}
use Prim.Native.Nat.{◌≤◌}
use Rattle.digits.proofs.number_of.Given as goal

abbrev pub invariant-loop-octet : goal.invariant-loop-octet
invariant-loop-octet l =
    (l.number ≤ l.most) × (digits_from l.most l.number (drop l.octet-index l.word) ≡ number_of l.most l.word)
