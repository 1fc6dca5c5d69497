use Rattle.std.proofs.Common.{T, sym, ap, ◌∙◌, subst, le_of_lt, arith}
use native.Mathlib.Nat.{min-eq_left, min-eq_right}
use lib.Ieee.{of_bits, div}
use Rattle.octets.specs.Answer.{accepted}
use Rattle.velocity.proofs.Double.{small, large, infinite, negative, speed-none}
use Rattle.coding.proofs.speed_code.Goals as goal

pub truncating_f64_to_u64-twice-requires : goal.truncating_f64_to_u64-twice-requires
unfolding of_bits
truncating_f64_to_u64-twice-requires c = let n = small c.args.h c.if-h.true c.if-h-2.true (subst T (sym c.well_formed.0.1) tt) in record { lower_bound = n.above; upper_bound = n.below }

pub overflow_add-n : goal.overflow_add-n
unfolding of_bits
overflow_add-n c = let n = small c.args.h c.if-h.true c.if-h-2.true (subst T (sym c.well_formed.0.1) tt) in omega (arith, n.fits, c.truncating_f64_to_u64-twice.ensures)

pub returns-then-n-top : goal.returns-then-n-top
unfolding of_bits
returns-then-n-top c = let n = small c.args.h c.if-h.true c.if-h-2.true (subst T (sym c.well_formed.0.1) tt) in sym (n.code c.args.top ∙ ap accepted (rw (← c.truncating_f64_to_u64-twice.ensures) (min-eq_left c.if-n-top.true)))

pub returns-then-h-2 : goal.returns-then-h-2
unfolding of_bits
returns-then-h-2 c = let n = small c.args.h c.if-h.true c.if-h-2.true (subst T (sym c.well_formed.0.1) tt) in sym (n.code c.args.top ∙ ap accepted (rw (← c.truncating_f64_to_u64-twice.ensures) (min-eq_right (le_of_lt c.if-n-top.false))))

pub returns-then-h-3 : goal.returns-then-h-3
unfolding of_bits div
returns-then-h-3 c = sym (large _ (omega arith) _ c.if-h.true c.if-h-2.false c.if-h-3.true)

pub returns-else-h-3 : goal.returns-else-h-3
unfolding of_bits div
returns-else-h-3 c = sym (infinite _ _ c.if-h.true c.if-h-3.false)

pub returns-else-h : goal.returns-else-h
unfolding of_bits div
returns-else-h c = sym (speed-none _ _ (negative _ c.if-h.false))
