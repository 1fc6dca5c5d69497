use mathlib.Core.Path.{sym, ◌∙◌}
use Rattle.measuring.specs.Measure.{too_far_lem}
use Rattle.measuring.proofs.too_far.Goals as goal

pub returns-then-beyond : goal.returns-then-beyond
unfolding too_far_lem
returns-then-beyond c = simp (sym c.beyond.ensures ∙ c.if-beyond.true)

pub returns-then-beyond-2 : goal.returns-then-beyond-2
unfolding too_far_lem
returns-then-beyond-2 c = simp (sym c.beyond.ensures ∙ c.if-beyond.false, sym c.beyond-else-beyond.ensures ∙ c.if-beyond-2.true)

pub returns : goal.returns
unfolding too_far_lem
returns c = simp (sym c.beyond.ensures ∙ c.if-beyond.false, sym c.beyond-else-beyond.ensures ∙ c.if-beyond-2.false)
