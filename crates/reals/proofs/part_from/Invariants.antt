use mathlib.Core.Path.{◌≡◌}
use Prim.Native.Nat.{◌^◌, ◌≤◌, ◌<◌}
use lib.ListN.{drop}
use Rattle.decimals.specs.Decimals.{part_from_lem}
use Rattle.reals.proofs.part_from.Given as goal

abbrev pub invariant-loop-i : goal.invariant-loop-i
invariant-loop-i l =
    (l.digits ≤ 15) × (0 < l.digits) × (l.number < 10 ^ l.digits) × (0 < l.scale) × (l.scale ≤ 10 ^ l.digits) × (part_from_lem l.number l.digits l.scale (drop l.i l.word) ≡ part_from_lem l.before l.count 1 (drop l.from l.word))
