use mathlib.Core.Path.{sym, ◌∙◌}
use borrow.Author.Tests.{lt-ltb, le-ltb}
use Rattle.finding.specs.Find.{sought_in}
use Rattle.locating.proofs.locate_in.Goals as goal

pub returns-then-name-gt255 : goal.returns-then-name-gt255
unfolding sought_in
returns-then-name-gt255 c = simp (sym c.is_run.ensures ∙ c.if-is_run.true, lt-ltb _ _ c.if-name-gt255.true)

pub returns-then-is_run : goal.returns-then-is_run
unfolding sought_in
returns-then-is_run c = c.first_of.ensures ∙ simp (sym c.is_run.ensures ∙ c.if-is_run.true, le-ltb _ _ c.if-name-gt255.false)

pub returns : goal.returns
unfolding sought_in
returns c = simp (sym c.is_run.ensures ∙ c.if-is_run.false)
