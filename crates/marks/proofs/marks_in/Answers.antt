use Prim.Native.Nat.{ℕ, ◌+◌}
use mathlib.Core.Path.{◌∙◌, ap}
use native.Mathlib.Omega.{arith}
use lib.Count.{ones, ones-le}
use Rattle.marks.proofs.Counted.{last-ones, short-ones}
use Rattle.marks.proofs.marks_in.Goals as goal

pub overflow_cast-result : goal.overflow_cast-result
overflow_cast-result c = record { fits = omega (arith, ones-le 8 c.cut.result c.cut.type_inv) }

pub overflow_add-result : goal.overflow_add-result
overflow_add-result c = record { fits = omega (arith, ones-le 8 c.cut.result c.cut.type_inv) }

pub returns-then-last-status : goal.returns-then-last-status
returns-then-last-status c =
    let a = c.args in
    ap (λ (x : ℕ). c.ones_in-whole.result + ones x) c.cut.ensures ∙ last-ones a.status.now a.range _ c.ones_in-whole.ensures

pub returns : goal.returns
returns c = let a = c.args in short-ones a.status.now a.range _ c.if-last-status.false c.ones_in.ensures
