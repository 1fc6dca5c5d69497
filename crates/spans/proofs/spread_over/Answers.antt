use Prim.Native.Nat.{ℕ, ◌-◌}
use mathlib.Core.Path.{sym, ◌∙◌}
use native.Mathlib.Omega.{arith}
use lib.ListN.{length}
use Rattle.octets.proofs.Applied.{applied-none}
use Rattle.spans.proofs.Spread.{end-reached, end-most, spread-filled}
use Rattle.spans.proofs.spread_over.Goals as goal

pub slice_bounds-fill-end : goal.slice_bounds-fill-end
slice_bounds-fill-end c = omega (arith, end-most (length c.args.table.now) c.args.last)

pub returns-then-first-end : goal.returns-then-first-end
returns-then-first-end c =
    let a = c.args in
    let end = c.end_of-end.result in
    let most = end-most (length a.table.now) a.last in
    spread-filled a.octet a.first (end - a.first) a.table.now c.fill.new.self (omega (arith, most)) (c.fill.ensures.after (λ y same. same))
    ∙ end-reached (λ (place old : ℕ). a.octet) a.first a.last end a.table.now c.end_of-end.ensures

pub returns-else-first-end : goal.returns-else-first-end
returns-else-first-end c =
    let a = c.args in
    let end = c.end_of-end.result in
    sym (applied-none (λ (place old : ℕ). a.octet) a.first (end - a.first) a.table.now (omega arith))
    ∙ end-reached (λ (place old : ℕ). a.octet) a.first a.last end a.table.now c.end_of-end.ensures
