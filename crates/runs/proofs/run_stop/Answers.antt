use Prim.Native.Nat.{suc}
use mathlib.Core.Path.{refl, sym, ◌∙◌}
use native.Mathlib.Omega.{arith}
use lib.ListN.{length}
use Rattle.runs.specs.Run.{stop_from}
use Rattle.runs.proofs.Steps.{step-says, stops-more, stops-close, stops_end, stops-pass}
use Rattle.runs.proofs.run_stop.Goals as goal

pub loop-f-init : goal.loop-f-init
unfolding stop_from
loop-f-init c = (suc (length c.args.octets.now), omega arith, refl)

pub overflow_add-i : goal.overflow_add-i
overflow_add-i c = let x = step-says _ _ _ (sym c.step_at.ensures ∙ c.in-Param.is) in omega arith

pub loop-f-smaller : goal.loop-f-smaller
loop-f-smaller c = let x = step-says _ _ _ (sym c.step_at.ensures ∙ c.in-Param.is) in omega arith

pub loop-f-preserved : goal.loop-f-preserved
loop-f-preserved c = let l = c.loop-f in
    let q = sym c.step_at.ensures ∙ c.in-Param.is in
    let s = stops-more _ _ l.invariant.0 _ l.invariant.1 q in
    (s.0, s.1, l.invariant.2 ∙ s.2)

pub returns-in-Close : goal.returns-in-Close
returns-in-Close c = let l = c.loop-f in sym (l.invariant.2 ∙ stops-close _ _ l.invariant.0 (sym c.step_at.ensures ∙ c.in-Close.is) l.invariant.1)

pub returns-in-End : goal.returns-in-End
returns-in-End c = let l = c.loop-f in sym (l.invariant.2 ∙ stops_end _ _ l.invariant.0 (sym c.step_at.ensures ∙ c.in-End.is))

pub returns-in-Pass : goal.returns-in-Pass
returns-in-Pass c = let l = c.loop-f in sym (l.invariant.2 ∙ stops-pass _ _ l.invariant.0 (sym c.step_at.ensures ∙ c.in-Pass.is) l.invariant.1)
