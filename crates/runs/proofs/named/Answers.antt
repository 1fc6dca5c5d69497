use mathlib.Core.Logic.{⊎_elim}
use Prim.Native.Nat.{suc}
use mathlib.Core.Path.{refl, sym, ◌∙◌}
use native.Mathlib.Omega.{arith}
use lib.ListN.{length}
use Rattle.runs.specs.Run.{named_from}
use Rattle.runs.proofs.Steps.{step-says, seeks-more, seeks-here, seeks-over}
use Rattle.runs.proofs.named.Goals as goal

pub loop-f-init : goal.loop-f-init
unfolding named_from
loop-f-init c = (suc (length c.args.octets.now), omega arith, refl)

pub returns-then-f-name : goal.returns-then-f-name
returns-then-f-name c = let l = c.loop-f in
    sym (l.invariant.2 ∙ seeks-here _ _ l.invariant.0 _ _ l.invariant.1 (sym c.step_at.ensures ∙ c.in-Param.is) c.if-f-name.true)

pub overflow_add-i : goal.overflow_add-i
overflow_add-i c = let x = step-says _ _ _ (sym c.step_at.ensures ∙ c.in-Param.is) in omega arith

pub loop-f-smaller : goal.loop-f-smaller
loop-f-smaller c = let x = step-says _ _ _ (sym c.step_at.ensures ∙ c.in-Param.is) in omega arith

pub loop-f-preserved : goal.loop-f-preserved
loop-f-preserved c = let l = c.loop-f in
    let s = seeks-more _ _ l.invariant.0 _ _ l.invariant.1 (sym c.step_at.ensures ∙ c.in-Param.is) c.if-f-name.false in
    (s.0, s.1, l.invariant.2 ∙ s.2)

pub returns-in-Close : goal.returns-in-Close
returns-in-Close c =
    let l = c.loop-f in
    sym (l.invariant.2 ∙ ⊎_elim (λ e. seeks-over _ _ l.invariant.0 _ _ (sym c.step_at.ensures ∙ e) tt) (⊎_elim (λ e. seeks-over _ _ l.invariant.0 _ _ (sym c.step_at.ensures ∙ e) tt) (λ e. seeks-over _ _ l.invariant.0 _ _ (sym c.step_at.ensures ∙ e) tt)) c.in-Close.is)
