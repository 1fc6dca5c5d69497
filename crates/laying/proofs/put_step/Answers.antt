use Prim.Native.Nat.{ℕ, ◌-◌}
use mathlib.Core.Path.{◌≡◌, sym, ◌∙◌, ap}
use mathlib.Core.List.{List}
use native.Mathlib.Omega.{arith}
use lib.ListN.{length}
use lib.Seq.{sets}
use Rattle.plans.specs.Turns.{may_block_lem}
use Rattle.asks.specs.Asks.{width}
use Rattle.planning.specs.Outcome.{frame}
use Rattle.planning.proofs.Bits.{length-ones}
use Rattle.planning.proofs.Puts.{step_row, step-blo, step_after, step-before, has-before}
use Rattle.laying.proofs.put_step.Goals as goal

pub put_row-requires : goal.put_row-requires
put_row-requires c =
    let a = c.args in
    let p = c.requires in
    let e = ap length (step_row a.kind (may_block_lem a.kind a.owners.now a.helpers.now a.sender) a.circuit a.n c.if-n-ne1.true) in
    let z : (a.n ≡ 1 → ⊥) = c.if-n-ne1.true in
    (omega arith, p.4, p.5, p.2, omega (arith, e, length-ones (width (a.n - 1)) a.n, p.7))

pub returns-then-n-ne1 : goal.returns-then-n-ne1
returns-then-n-ne1 c =
    let a = c.args in
    let e = step_row a.kind (may_block_lem a.kind a.owners.now a.helpers.now a.sender) a.circuit a.n c.if-n-ne1.true in
    (c.put_row.ensures.0 ∙ ap (λ (m : List ℕ). sets a.out.now a.at (frame m)) (sym e), omega (arith, c.put_row.ensures.1, ap length e, length-ones (width (a.n - 1)) a.n))

pub put_head-requires : goal.put_head-requires
put_head-requires c =
    let a = c.args in
    let p = c.requires in
    let e = ap length (step-blo a.kind (may_block_lem a.kind a.owners.now a.helpers.now a.sender) a.circuit a.n c.if-n-ne1.false c.if-kind-eq0.true) in
    (omega (arith, e, p.7), p.5)

pub returns-then-kind-eq0 : goal.returns-then-kind-eq0
returns-then-kind-eq0 c =
    let a = c.args in
    let e = step-blo a.kind (may_block_lem a.kind a.owners.now a.helpers.now a.sender) a.circuit a.n c.if-n-ne1.false c.if-kind-eq0.true in
    (c.put_head.ensures ∙ ap (λ (m : List ℕ). sets a.out.now a.at (frame m)) (sym e), omega (arith, ap length e))

pub put_pair-requires : goal.put_pair-requires
put_pair-requires c =
    let a = c.args in
    let p = c.requires in
    let e = ap length (step_after a.kind (may_block_lem a.kind a.owners.now a.helpers.now a.sender) a.circuit a.n c.if-n-ne1.false c.if-kind-eq0.false (sym c.next_will_do.ensures ∙ c.if-next_will_do.true)) in
    (p.5, omega (arith, e, p.7))

pub returns-then-next_will_do : goal.returns-then-next_will_do
returns-then-next_will_do c =
    let a = c.args in
    let e = step_after a.kind (may_block_lem a.kind a.owners.now a.helpers.now a.sender) a.circuit a.n c.if-n-ne1.false c.if-kind-eq0.false (sym c.next_will_do.ensures ∙ c.if-next_will_do.true) in
    (c.put_pair.ensures.0 ∙ ap (λ (m : List ℕ). sets a.out.now a.at (frame m)) (sym e), omega (arith, c.put_pair.ensures.1, ap length e))

pub overflow_sub-circuit : goal.overflow_sub-circuit
overflow_sub-circuit c =
    let a = c.args in
    let h = has-before a.kind (may_block_lem a.kind a.owners.now a.helpers.now a.sender) a.circuit a.n c.requires.6 c.if-kind-eq0.false (sym c.next_will_do.ensures ∙ c.if-next_will_do.false) in
    h

pub put_pair-requires-2 : goal.put_pair-requires-2
put_pair-requires-2 c =
    let a = c.args in
    let p = c.requires in
    let e = ap length (step-before a.kind (may_block_lem a.kind a.owners.now a.helpers.now a.sender) a.circuit a.n c.if-n-ne1.false c.if-kind-eq0.false (sym c.next_will_do.ensures ∙ c.if-next_will_do.false)) in
    (omega (arith, p.5), omega (arith, e, p.7))

pub returns : goal.returns
returns c =
    let a = c.args in
    let e = step-before a.kind (may_block_lem a.kind a.owners.now a.helpers.now a.sender) a.circuit a.n c.if-n-ne1.false c.if-kind-eq0.false (sym c.next_will_do.ensures ∙ c.if-next_will_do.false) in
    (c.put_pair-2.ensures.0 ∙ ap (λ (m : List ℕ). sets a.out.now a.at (frame m)) (sym e), omega (arith, c.put_pair-2.ensures.1, ap length e))
