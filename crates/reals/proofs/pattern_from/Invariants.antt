use mathlib.Core.Path.{◌≡◌}
use Prim.Native.Nat.{◌^◌, ◌<◌}
use lib.ListN.{drop}
use Rattle.decimals.specs.Decimals.{hex_from}
use Rattle.reals.proofs.pattern_from.Given as goal

abbrev pub invariant-loop-octet : goal.invariant-loop-octet
invariant-loop-octet l = (l.number < 16 ^ l.octet-index) × (hex_from l.number (drop l.octet-index l.octet-items) ≡ hex_from 0 (drop 2 l.word))
