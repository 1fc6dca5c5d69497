use Rattle.std.specs.Prelude.{Some}
use Prim.Native.Nat.{ℕ}
use mathlib.Core.Path.{sym, ◌∙◌, ap}
use native.Mathlib.Omega.{arith}
use Rattle.words.specs.Into.{entry}
use Rattle.words.proofs.Steps.{into-ended, into-high, into-low, into_more}
use Rattle.hexes.proofs.put_pairs.Goals as goal

pub returns-then-high-gt15 : goal.returns-then-high-gt15
returns-then-high-gt15 c =
    let a = c.args in
    let l = c.loop-count in
    sym (into-high a.word.now l.out a.at l.count (omega arith) (omega arith)) ∙ l.invariant

pub returns-then-low-gt15 : goal.returns-then-low-gt15
returns-then-low-gt15 c =
    let a = c.args in
    let l = c.loop-count in
    sym (into-low a.word.now l.out a.at l.count (omega arith) (omega arith) (omega arith)) ∙ l.invariant

pub loop-count-preserved : goal.loop-count-preserved
loop-count-preserved c =
    let a = c.args in
    let l = c.loop-count in
    rw (c.value-high.ensures.0, c.value-low.ensures.0) (sym (into_more a.word.now l.out a.at l.count (omega arith) (omega arith) (omega arith)) ∙ l.invariant)

pub returns : goal.returns
returns c =
    let a = c.args in
    let l = c.loop-count in
    ap (λ (n : ℕ). entry (Some n) l.out) (omega arith) ∙ sym (into-ended a.word.now l.out a.at l.count (omega arith)) ∙ l.invariant
