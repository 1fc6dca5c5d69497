use mathlib.Core.Path.{refl, sym, ◌∙◌}
use native.Mathlib.Omega.{arith}
use lib.Dec.{lit<}
use Rattle.decimals.proofs.Steps.{whole-first, whole-last, whole-point, whole-none, whole_long, whole-more, whole-empty, whole-ended, ten-more, ten-14, ten-15}
use Rattle.reals.proofs.decimal_from.Goals as goal

pub loop-i-init : goal.loop-i-init
loop-i-init c = (omega arith, lit< tt, refl)

pub returns-then-digits-eq0 : goal.returns-then-digits-eq0
returns-then-digits-eq0 c = (sym (whole-first c.args.word.now c.loop-i.i (omega arith) _ _ c.if-word-i-eq46.true c.if-digits-eq0.true) ∙ c.loop-i.invariant.2, tt)

pub returns-then-word-i-eq1 : goal.returns-then-word-i-eq1
returns-then-word-i-eq1 c = (sym (whole-last c.args.word.now c.loop-i.i (omega arith) _ _ c.if-word-i-eq46.true c.if-digits-eq0.false c.if-word-i-eq1.true) ∙ c.loop-i.invariant.2, tt)

pub part_from-requires : goal.part_from-requires
part_from-requires c = (c.loop-i.invariant.1, omega arith, c.loop-i.invariant.0)

pub returns-then-word-i-eq46 : goal.returns-then-word-i-eq46
returns-then-word-i-eq46 c = (
  c.part_from.ensures.0
      ∙ sym (whole-point c.args.word.now c.loop-i.i (omega arith) _ _ c.if-word-i-eq46.true c.if-digits-eq0.false c.if-word-i-eq1.false)
      ∙ c.loop-i.invariant.2,
  c.part_from.ensures.1,
)

pub returns-then-digit-gt9 : goal.returns-then-digit-gt9
returns-then-digit-gt9 c = (sym (whole-none c.args.word.now c.loop-i.i (omega arith) _ _ c.if-word-i-eq46.false (omega arith)) ∙ c.loop-i.invariant.2, tt)

pub returns-then-digits-gt14 : goal.returns-then-digits-gt14
returns-then-digits-gt14 c = (sym (whole_long c.args.word.now c.loop-i.i (omega arith) _ _ c.if-word-i-eq46.false (omega arith) (omega arith)) ∙ c.loop-i.invariant.2, tt)

pub overflow_mul-number : goal.overflow_mul-number
overflow_mul-number c = omega (arith, ten-14 c.loop-i.digits (omega arith))

pub overflow_add-number : goal.overflow_add-number
overflow_add-number c = omega (arith, ten-14 c.loop-i.digits (omega arith))

pub loop-i-preserved : goal.loop-i-preserved
loop-i-preserved c = (
  omega arith,
  ten-more c.loop-i.number c.loop-i.digits _ c.loop-i.invariant.1 (omega arith),
  rw c.value-digit.ensures.0
      (sym (whole-more c.args.word.now c.loop-i.i (omega arith) c.loop-i.number c.loop-i.digits c.if-word-i-eq46.false (omega arith) (omega arith)) ∙ c.loop-i.invariant.2),
)

pub returns-then-digits-eq0-2 : goal.returns-then-digits-eq0-2
returns-then-digits-eq0-2 c = (sym (whole-empty c.args.word.now c.loop-i.i _ _ (omega arith) c.if-digits-eq0-2.true) ∙ c.loop-i.invariant.2, tt)

pub returns : goal.returns
returns c = (
  sym (whole-ended c.args.word.now c.loop-i.i _ _ (omega arith) c.if-digits-eq0-2.false) ∙ c.loop-i.invariant.2,
  (omega (arith, ten-15 c.loop-i.digits (omega arith)), omega arith, omega arith),
)
