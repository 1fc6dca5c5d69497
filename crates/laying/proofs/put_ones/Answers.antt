use Prim.Native.Nat.{ℕ, ◌+◌, ◌-◌}
use mathlib.Core.Path.{sym, ◌∙◌, ap}
use native.Mathlib.Omega.{arith}
use native.Mathlib.Nat.{sub-zero, zero-add}
use lib.ListN.{take, drop, set, length-drop}
use lib.Seq.{sets, length-take-le}
use Rattle.planning.specs.Planner.{ones}
use Rattle.planning.proofs.Bits.{length-ones}
use Rattle.planning.proofs.Puts.{ones-on, ones-done}
use Rattle.laying.proofs.Parts.{whole-stored, part-stored}
use Rattle.laying.proofs.put_ones.Goals as goal

pub loop-octet-init : goal.loop-octet-init
loop-octet-init c = rw sub-zero

pub loop-octet-preserved : goal.loop-octet-preserved
loop-octet-preserved c =
    let l = c.loop-octet in
    let a = c.args in
    let s = length-take-le (a.at + a.k - a.at) (drop a.at a.out.now) (omega (arith, length-drop a.at a.out.now, c.requires)) in
    let less = c.less_eight-left.result in
    ap (λ (j : ℕ). sets (set l.octet-items j c.low_ones.result) (0 + (l.octet-index + 1)) (ones (a.k - (l.octet-index + 1)) less)) (sym (zero-add l.octet-index))
    ∙ sym (ones-on l.octet-items 0 l.octet-index (a.k - l.octet-index) (a.k - (l.octet-index + 1)) l.left less c.low_ones.result (omega (arith, s, c.loop-octet-test.true)) c.low_ones.ensures c.less_eight-left.ensures) ∙ l.invariant

pub returns : goal.returns
returns c =
    let l = c.loop-octet in
    let a = c.args in
    let vs = ones a.k a.n in
    let n = length-ones a.k a.n in
    let s = length-take-le (a.at + a.k - a.at) (drop a.at a.out.now) (omega (arith, length-drop a.at a.out.now, c.requires)) in
    let d = ones-done l.octet-items (0 + l.octet-index) (a.k - l.octet-index) l.left (omega (arith, s, c.loop-octet-test.false)) in
    part-stored a.out.now l.octet-items vs a.at (a.at + a.k - a.at) (omega (arith, n)) (omega (arith, c.requires)) (sym d ∙ l.invariant ∙ whole-stored (take (a.at + a.k - a.at) (drop a.at a.out.now)) vs (omega (arith, s, n)))
