use mathlib.Core.Path.{sym, ◌∙◌}
use Rattle.measuring.proofs.Near.{not-long}
use Rattle.measuring.proofs.Outcome.{long, far, over, over-head, over-run, fits}
use native.Mathlib.Omega.{arith}
use Rattle.measuring.proofs.measure.Goals as goal

pub returns-then-too_long : goal.returns-then-too_long
returns-then-too_long c = let a = c.args in
    long a.shape a.most a.lengths (sym c.too_long.ensures ∙ c.if-too_long.true)

pub pointers_of-pointers-requires : goal.pointers_of-pointers-requires
pointers_of-pointers-requires c = not-long _ (sym c.too_long.ensures ∙ c.if-too_long.false)

pub returns-then-too_far : goal.returns-then-too_far
returns-then-too_far c = let a = c.args in
    far a.shape a.most a.lengths (sym c.too_long.ensures ∙ c.if-too_long.false) _ c.pointers_of-pointers.ensures (sym c.too_far.ensures ∙ c.if-too_far.true)

pub returns-then-longest-lengths : goal.returns-then-longest-lengths
returns-then-longest-lengths c = let a = c.args in
    over-head a.shape a.most a.lengths (sym c.too_long.ensures ∙ c.if-too_long.false) _ c.pointers_of-pointers.ensures (sym c.too_far.ensures ∙ c.if-too_far.false) c.if-longest-lengths.true

pub returns-then-longest-lengths-2 : goal.returns-then-longest-lengths-2
returns-then-longest-lengths-2 c = let a = c.args in
    over-run a.shape a.most a.lengths (sym c.too_long.ensures ∙ c.if-too_long.false) _ c.pointers_of-pointers.ensures (sym c.too_far.ensures ∙ c.if-too_far.false) c.if-longest-lengths-2.true

pub size_of-size-requires : goal.size_of-size-requires
size_of-size-requires c = let n = not-long _ (sym c.too_long.ensures ∙ c.if-too_long.false) in
    (n.0, n.1, n.2, omega (arith, c.if-longest-lengths.false), omega (arith, c.if-longest-lengths-2.false))

pub returns-then-longest-size : goal.returns-then-longest-size
returns-then-longest-size c = let a = c.args in
    over a.shape a.most a.lengths (sym c.too_long.ensures ∙ c.if-too_long.false) _ c.pointers_of-pointers.ensures (sym c.too_far.ensures ∙ c.if-too_far.false) (omega (arith, c.size_of-size.ensures))

pub returns : goal.returns
returns c = let a = c.args in
    fits a.shape a.most a.lengths (sym c.too_long.ensures ∙ c.if-too_long.false) _ c.pointers_of-pointers.ensures (sym c.too_far.ensures ∙ c.if-too_far.false) _ c.size_of-size.ensures c.if-longest-size.false
