use mathlib.Core.Path.{sym, ◌∙◌}
use borrow.Author.Tests.{lt-ltb, le-ltb, eq-eqb, ne_eqb}
use Rattle.measuring.specs.Measure.{unfit_of}
use Rattle.measuring.proofs.unfit.Goals as goal

pub returns-then-shape-gt3 : goal.returns-then-shape-gt3
unfolding unfit_of
returns-then-shape-gt3 c = simp (lt-ltb _ _ c.if-shape-gt3.true)

pub returns-then-fixed-shape : goal.returns-then-fixed-shape
unfolding unfit_of
returns-then-fixed-shape c = simp (le-ltb _ _ c.if-shape-gt3.false, ne_eqb _ _ c.if-fixed-shape.true)

pub returns-then-lacks : goal.returns-then-lacks
unfolding unfit_of
returns-then-lacks c = simp (le-ltb _ _ c.if-shape-gt3.false, eq-eqb _ _ c.if-fixed-shape.false, sym c.lacks.ensures ∙ c.if-lacks.true)

pub returns-then-lacks-2 : goal.returns-then-lacks-2
unfolding unfit_of
returns-then-lacks-2 c = simp (le-ltb _ _ c.if-shape-gt3.false, eq-eqb _ _ c.if-fixed-shape.false, sym c.lacks.ensures ∙ c.if-lacks.false, sym c.lacks-else-lacks.ensures ∙ c.if-lacks-2.true)

pub returns-then-lacks-3 : goal.returns-then-lacks-3
unfolding unfit_of
returns-then-lacks-3 c = simp (le-ltb _ _ c.if-shape-gt3.false, eq-eqb _ _ c.if-fixed-shape.false, sym c.lacks.ensures ∙ c.if-lacks.false, sym c.lacks-else-lacks.ensures ∙ c.if-lacks-2.false, sym c.lacks-else-lacks-2.ensures ∙ c.if-lacks-3.true)

pub returns-then-shape : goal.returns-then-shape
unfolding unfit_of
returns-then-shape c = simp (le-ltb _ _ c.if-shape-gt3.false, eq-eqb _ _ c.if-fixed-shape.false, sym c.lacks.ensures ∙ c.if-lacks.false, sym c.lacks-else-lacks.ensures ∙ c.if-lacks-2.false, sym c.lacks-else-lacks-2.ensures ∙ c.if-lacks-3.false, c.if-shape.true)

pub returns : goal.returns
unfolding unfit_of
returns c = simp (le-ltb _ _ c.if-shape-gt3.false, eq-eqb _ _ c.if-fixed-shape.false, sym c.lacks.ensures ∙ c.if-lacks.false, sym c.lacks-else-lacks.ensures ∙ c.if-lacks-2.false, sym c.lacks-else-lacks-2.ensures ∙ c.if-lacks-3.false, c.if-shape.false)
