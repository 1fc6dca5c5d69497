use Prim.Native.Nat.{◌*◌}
use mathlib.Core.Path.{◌≡◌}
use lib.ListN.{drop}
use Rattle.words.specs.Into.{pairs_into}
use Rattle.hexes.proofs.put_pairs.Given as goal

abbrev pub invariant-loop-count : goal.invariant-loop-count
invariant-loop-count l =
    pairs_into (drop (2 * l.count) l.word) l.out l.at l.count ≡ pairs_into l.word l.initial.out l.at 0
