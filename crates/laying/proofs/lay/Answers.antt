use mathlib.Core.Path.{◌≡◌, ◌∙◌, ap}
use native.Mathlib.Omega.{arith}
use lib.ListN.{length}
use lib.Seq.{length-sets}
use Rattle.planning.proofs.Laying.{laying-starts, laying-ends, laying-skip, put-few, put-within, put-can, put-room, laying-put}
use Rattle.laying.proofs.lay.Goals as goal

pub loop-c-init : goal.loop-c-init
loop-c-init c = let a = c.args in laying-starts a.owners.now a.helpers.now a.ticks.now a.sender a.kind a.out.now c.requires

pub in_row-n-requires : goal.in_row-n-requires
in_row-n-requires c = (c.requires.ticks-sized, omega arith)

pub overflow_add-c : goal.overflow_add-c
overflow_add-c c = omega arith

pub loop-c-smaller-then-n-eq0 : goal.loop-c-smaller-then-n-eq0
loop-c-smaller-then-n-eq0 c = omega arith

pub loop-c-preserved-then-n-eq0 : goal.loop-c-preserved-then-n-eq0
loop-c-preserved-then-n-eq0 c = let a = c.args in let p = c.requires in let l = c.loop-c in laying-skip a.owners.now a.helpers.now a.ticks.now a.sender a.kind a.out.now p l.out l.c l.at l.invariant c.loop-c-test.true c.in_row-n.result c.in_row-n.ensures c.if-n-eq0.true

pub put_step-at-requires : goal.put_step-at-requires
put_step-at-requires c =
    let a = c.args in let p = c.requires in let l = c.loop-c in
    let z : (c.in_row-n.result ≡ 0 → ⊥) = c.if-n-eq0.false in
    (p.owners-sized, p.helpers-sized, p.kinds, omega arith, put-few a.owners.now a.helpers.now a.ticks.now a.sender a.kind a.out.now p l.out l.c l.at l.invariant c.loop-c-test.true c.in_row-n.result c.in_row-n.ensures c.if-n-eq0.false, omega arith, put-can a.owners.now a.helpers.now a.ticks.now a.sender a.kind a.out.now p l.out l.c l.at l.invariant c.loop-c-test.true c.in_row-n.result c.in_row-n.ensures c.if-n-eq0.false, put-room a.owners.now a.helpers.now a.ticks.now a.sender a.kind a.out.now p l.out l.c l.at l.invariant c.loop-c-test.true c.in_row-n.result c.in_row-n.ensures c.if-n-eq0.false)

pub overflow_add-c-in-loop-c : goal.overflow_add-c-in-loop-c
overflow_add-c-in-loop-c c = let a = c.args in let p = c.requires in let l = c.loop-c in omega (arith, put-within a.owners.now a.helpers.now a.ticks.now a.sender a.kind a.out.now p l.out l.c l.at l.invariant c.loop-c-test.true c.in_row-n.result c.in_row-n.ensures c.if-n-eq0.false)

pub loop-c-smaller : goal.loop-c-smaller
loop-c-smaller c =
    let a = c.args in let p = c.requires in let l = c.loop-c in
    let z : (c.in_row-n.result ≡ 0 → ⊥) = c.if-n-eq0.false in
    omega (arith, put-within a.owners.now a.helpers.now a.ticks.now a.sender a.kind a.out.now p l.out l.c l.at l.invariant c.loop-c-test.true c.in_row-n.result c.in_row-n.ensures c.if-n-eq0.false)

pub loop-c-preserved : goal.loop-c-preserved
loop-c-preserved c =
    let a = c.args in let p = c.requires in let l = c.loop-c in
    let e = c.put_step-at.ensures in
    laying-put a.owners.now a.helpers.now a.ticks.now a.sender a.kind a.out.now p l.out l.c l.at l.invariant c.loop-c-test.true c.in_row-n.result c.in_row-n.ensures c.if-n-eq0.false _ _ e.0 e.1 (ap length e.0 ∙ simp length-sets)

pub shape_of-out : goal.shape_of-out
shape_of-out c = c.loop-c.invariant.1

pub returns : goal.returns
returns c = let a = c.args in let p = c.requires in let l = c.loop-c in laying-ends a.owners.now a.helpers.now a.ticks.now a.sender a.kind a.out.now p l.out l.c l.at l.invariant c.loop-c-test.false
