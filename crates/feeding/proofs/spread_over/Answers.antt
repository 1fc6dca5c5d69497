use Prim.Native.Nat.{ℕ, ◌+◌, ◌-◌}
use mathlib.Core.Path.{◌≡◌, ◌∙◌, ap}
use native.Mathlib.Omega.{arith}
use lib.ListN.{length, take, drop, replicate}
use Rattle.std.proofs.Common.{rules}
use Rattle.feeding.proofs.Spread.{spread-filled}
use Rattle.feeding.proofs.spread_over.Goals as goal

pub returns : goal.returns
returns c =
    let a = c.args in
    let n = a.last + 1 - a.first in
    let s : length (take n (drop a.first a.table.now)) ≡ n = search rules in
    spread-filled a.table.now _ a.first a.last a.octet c.requires.0 (omega (arith, c.requires.1, c.requires.2)) (c.fill.ensures.after (λ y e. e) ∙ ap (λ (k : ℕ). replicate k a.octet) s)
