use Rattle.words.specs.Words.{word_length}
use lib.ListN.{drop}
use mathlib.Core.Path.{◌≡◌}
use Prim.Native.Nat.{◌+◌}
use Rattle.digits.proofs.word_end.Given as goal

abbrev pub invariant-loop-at : goal.invariant-loop-at
invariant-loop-at l =
    l.at + word_length (drop l.at l.line) ≡ l.from + word_length (drop l.from l.line)
