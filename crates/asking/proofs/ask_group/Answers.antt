use borrow.Author.Tests.{lt-ltb, le-ltb, eq-eqb, ne_eqb}
use mathlib.Core.Path.{refl}
use Rattle.asks.specs.Asks.{broken_group}
use Rattle.asks.proofs.Given.{marks-over, marks-under}
use Rattle.octets.proofs.Tests.{tests}
use native.Mathlib.Omega.{arith}
use Rattle.asking.proofs.ask_group.Goals as goal

pub returns-then-block-gt1 : goal.returns-then-block-gt1
unfolding broken_group
returns-then-block-gt1 c = search tests

pub returns-then-size-eq0 : goal.returns-then-size-eq0
unfolding broken_group
returns-then-size-eq0 c = search tests

pub overflow_cast-range : goal.overflow_cast-range
overflow_cast-range c = omega (arith, c.type_inv.message c.args.contents.from)

pub returns-then-range-eq0 : goal.returns-then-range-eq0
unfolding broken_group
returns-then-range-eq0 c = search tests

pub overflow_add-range : goal.overflow_add-range
overflow_add-range c = omega (arith, c.type_inv.message c.args.contents.from)

pub overflow_add-range-2 : goal.overflow_add-range-2
overflow_add-range-2 c = omega (arith, c.type_inv.message c.args.contents.from)

pub returns-then-size-range : goal.returns-then-size-range
unfolding broken_group
returns-then-size-range c = search tests

pub returns-then-marks_in-gt-MOST_MARKS : goal.returns-then-marks_in-gt-MOST_MARKS
unfolding broken_group
returns-then-marks_in-gt-MOST_MARKS c = rw (le-ltb _ _ c.if-block-gt1.false, ne_eqb _ _ c.if-size-eq0.false, ne_eqb _ _ c.if-range-eq0.false, eq-eqb _ _ c.if-size-range.false, marks-over c.args.message.now c.args.contents _ c.if-size-range.false c.marks_in.ensures c.if-marks_in-gt-MOST_MARKS.true) refl

pub overflow_add-circuit : goal.overflow_add-circuit
overflow_add-circuit c = omega (arith, c.type_inv.message c.args.contents.from)

pub returns-then-circuit-range : goal.returns-then-circuit-range
unfolding broken_group
returns-then-circuit-range c = rw (le-ltb _ _ c.if-block-gt1.false, ne_eqb _ _ c.if-size-eq0.false, ne_eqb _ _ c.if-range-eq0.false, eq-eqb _ _ c.if-size-range.false, marks-under c.args.message.now c.args.contents _ c.if-size-range.false c.marks_in.ensures c.if-marks_in-gt-MOST_MARKS.false, lt-ltb _ _ c.if-circuit-range.true) refl

pub returns : goal.returns
unfolding broken_group
returns c = rw (le-ltb _ _ c.if-block-gt1.false, ne_eqb _ _ c.if-size-eq0.false, ne_eqb _ _ c.if-range-eq0.false, eq-eqb _ _ c.if-size-range.false, marks-under c.args.message.now c.args.contents _ c.if-size-range.false c.marks_in.ensures c.if-marks_in-gt-MOST_MARKS.false, le-ltb _ _ c.if-circuit-range.false) refl
