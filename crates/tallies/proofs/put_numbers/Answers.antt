use Prim.Native.Nat.{ℕ}
use mathlib.Core.List.{List, [], ◌∷◌, ◌++◌}
use Rattle.lines.proofs.Pouring.{and_then}
use Rattle.tallies.specs.Lines.{spaced, four_numbers}
use Rattle.tallies.proofs.Reported.{then-put}
use Rattle.tallies.proofs.put_numbers.Goals as goal

pub returns : goal.returns
unfolding four_numbers
returns c =
    let t = c.args.t in
    let tail : List ℕ = 10 ∷ [] in
    and_then _ (spaced t.messages) (spaced t.accepted ++ (spaced t.refused ++ (spaced t.busy ++ tail))) c.put_count-messages.ensures
    (and_then _ (spaced t.accepted) (spaced t.refused ++ (spaced t.busy ++ tail)) c.put_count-accepted.ensures
    (and_then _ (spaced t.refused) (spaced t.busy ++ tail) c.put_count-refused.ensures
    (then-put _ (spaced t.busy) 10 c.put_count-busy.ensures c.put_octet.ensures)))
