use mathlib.Core.Path.{sym, ◌∙◌}
use Rattle.parts.specs.Overlap.{judged, held}
use Rattle.parts.proofs.judge_pairs.Goals as goal

pub returns-then-shares : goal.returns-then-shares
unfolding judged
returns-then-shares c = simp (sym c.shares.ensures ∙ c.if-shares.true, c.later_start.ensures)

pub returns-then-shares-2 : goal.returns-then-shares-2
unfolding judged
returns-then-shares-2 c = simp (sym c.shares-2.ensures ∙ c.if-shares-2.true, sym c.shares.ensures ∙ c.if-shares.false, c.later_start-then-shares-2.ensures)

pub returns-then-shares-3 : goal.returns-then-shares-3
unfolding judged
returns-then-shares-3 c = simp (sym c.shares-3.ensures ∙ c.if-shares-3.true, sym c.shares-2.ensures ∙ c.if-shares-2.false, sym c.shares.ensures ∙ c.if-shares.false, c.later_start-then-shares-3.ensures)

pub returns-then-shares-4 : goal.returns-then-shares-4
unfolding judged
returns-then-shares-4 c = simp (sym c.shares-4.ensures ∙ c.if-shares-4.true, sym c.shares-3.ensures ∙ c.if-shares-3.false, sym c.shares-2.ensures ∙ c.if-shares-2.false, sym c.shares.ensures ∙ c.if-shares.false, c.later_start-then-shares-4.ensures)

pub returns-then-shares-5 : goal.returns-then-shares-5
unfolding judged
returns-then-shares-5 c = simp (sym c.shares-5.ensures ∙ c.if-shares-5.true, sym c.shares-4.ensures ∙ c.if-shares-4.false, sym c.shares-3.ensures ∙ c.if-shares-3.false, sym c.shares-2.ensures ∙ c.if-shares-2.false, sym c.shares.ensures ∙ c.if-shares.false, c.later_start-then-shares-5.ensures)

pub returns-then-shares-6 : goal.returns-then-shares-6
unfolding judged
returns-then-shares-6 c = simp (sym c.shares-6.ensures ∙ c.if-shares-6.true, sym c.shares-5.ensures ∙ c.if-shares-5.false, sym c.shares-4.ensures ∙ c.if-shares-4.false, sym c.shares-3.ensures ∙ c.if-shares-3.false, sym c.shares-2.ensures ∙ c.if-shares-2.false, sym c.shares.ensures ∙ c.if-shares.false, c.later_start-then-shares-6.ensures)

pub returns : goal.returns
unfolding judged held
returns c = simp (sym c.shares-6.ensures ∙ c.if-shares-6.false, sym c.shares-5.ensures ∙ c.if-shares-5.false, sym c.shares-4.ensures ∙ c.if-shares-4.false, sym c.shares-3.ensures ∙ c.if-shares-3.false, sym c.shares-2.ensures ∙ c.if-shares-2.false, sym c.shares.ensures ∙ c.if-shares.false, c.run_of.ensures, c.contents_of-3.ensures, c.contents_of-2.ensures, c.contents_of.ensures)
