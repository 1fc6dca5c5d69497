use mathlib.Core.Path.{◌≡◌}
use Prim.Native.Nat.{◌^◌, ◌≤◌, ◌<◌}
use lib.ListN.{drop}
use Rattle.decimals.specs.Decimals.{whole_from}
use Rattle.reals.proofs.decimal_from.Given as goal

abbrev pub invariant-loop-i : goal.invariant-loop-i
invariant-loop-i l =
    (l.digits ≤ 15) × (l.number < 10 ^ l.digits) × (whole_from l.number l.digits (drop l.i l.word) ≡ whole_from 0 0 (drop l.from l.word))
