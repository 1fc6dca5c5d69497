use mathlib.Core.Path.{◌∙◌}
use borrow.Author.Tests.{lt-ltb, le-ltb}
use Rattle.finding.specs.Find.{named_in}
use Rattle.locating.proofs.named_in.Goals as goal

pub returns-then-from-run : goal.returns-then-from-run
unfolding named_in
returns-then-from-run c = c.named.ensures ∙ simp (lt-ltb _ _ c.if-from-run.true)

pub returns : goal.returns
unfolding named_in
returns c = simp (le-ltb _ _ c.if-from-run.false)
