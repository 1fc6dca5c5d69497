use mathlib.Core.Path.{refl, sym, ◌∙◌}
use native.Mathlib.Omega.{arith}
use Rattle.decimals.proofs.Steps.{part_none, part-long, part-more, part-ended, ten-more, ten-scale, ten-14, ten-15}
use Rattle.reals.proofs.part_from.Goals as goal

pub loop-i-init : goal.loop-i-init
loop-i-init c = (omega arith, omega arith, c.requires.0, omega arith, omega arith, refl)

pub returns-then-digit-gt9 : goal.returns-then-digit-gt9
returns-then-digit-gt9 c = (sym (part_none c.args.word.now c.loop-i.i (omega arith) _ _ _ (omega arith)) ∙ c.loop-i.invariant.5, tt)

pub returns-then-digits-gt14 : goal.returns-then-digits-gt14
returns-then-digits-gt14 c = (sym (part-long c.args.word.now c.loop-i.i (omega arith) _ _ _ (omega arith) (omega arith)) ∙ c.loop-i.invariant.5, tt)

pub overflow_mul-number : goal.overflow_mul-number
overflow_mul-number c = omega (arith, ten-14 c.loop-i.digits (omega arith))

pub overflow_add-number : goal.overflow_add-number
overflow_add-number c = omega (arith, ten-14 c.loop-i.digits (omega arith))

pub overflow_mul-scale : goal.overflow_mul-scale
overflow_mul-scale c = omega (arith, ten-14 c.loop-i.digits (omega arith))

pub loop-i-preserved : goal.loop-i-preserved
loop-i-preserved c = (
  omega arith,
  omega arith,
  ten-more c.loop-i.number c.loop-i.digits _ c.loop-i.invariant.2 (omega arith),
  omega arith,
  ten-scale c.loop-i.scale c.loop-i.digits c.loop-i.invariant.4,
  rw c.value-digit.ensures.0
      (sym (part-more c.args.word.now c.loop-i.i (omega arith) c.loop-i.number c.loop-i.digits c.loop-i.scale (omega arith) (omega arith)) ∙ c.loop-i.invariant.5),
)

pub returns : goal.returns
returns c = (
  sym (part-ended c.args.word.now c.loop-i.i _ _ _ (omega arith)) ∙ c.loop-i.invariant.5,
  (omega (arith, ten-15 c.loop-i.digits (omega arith)), c.loop-i.invariant.3, omega (arith, ten-15 c.loop-i.digits (omega arith))),
)
