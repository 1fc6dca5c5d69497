use mathlib.Core.Path.{refl, sym, ◌∙◌}
use native.Mathlib.Omega.{arith}
use lib.ListN.{length}
use Rattle.list_lines.proofs.Stepping.{offered, text-done, text-more}
use Rattle.listing.proofs.put_steps.Goals as goal

pub loop-f-init : goal.loop-f-init
loop-f-init c = (length c.args.message.now, omega arith, refl, refl)

pub shape_of-out-in-None : goal.shape_of-out-in-None
shape_of-out-in-None c = c.loop-f.invariant.2

pub returns-in-None : goal.returns-in-None
returns-in-None c =
    let l = c.loop-f in
    sym (text-done l.invariant.0 _ _ _ (sym c.step_of.ensures ∙ c.in-None.is)) ∙ l.invariant.3

pub overflow_add-place : goal.overflow_add-place
overflow_add-place c = let x = offered _ _ _ (sym c.step_of.ensures ∙ c.in-Some.is) in omega (arith, x.inside)

pub loop-f-smaller : goal.loop-f-smaller
loop-f-smaller c = let x = offered _ _ _ (sym c.step_of.ensures ∙ c.in-Some.is) in omega (arith, x.starts, x.inside)

pub loop-f-preserved : goal.loop-f-preserved
loop-f-preserved c =
    let l = c.loop-f in
    let p = c.put_param-next in
    let s = text-more l.invariant.0 _ _ _ _ _ l.invariant.1 (sym c.step_of.ensures ∙ c.in-Some.is) p.ensures in
    (s.0, s.1, p.auto.out ∙ l.invariant.2, s.2 ∙ l.invariant.3)
