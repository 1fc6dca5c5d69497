use mathlib.Core.Path.{◌∙◌}
use borrow.Author.Tests.{lt-ltb, le-ltb}
use Rattle.layout.specs.Container.{variable_slot_lem}
use Rattle.reading.proofs.variable_slot.Goals as goal

pub returns-then-k-vars : goal.returns-then-k-vars
unfolding variable_slot_lem
returns-then-k-vars c = c.variable_at.ensures ∙ simp (lt-ltb _ _ c.if-k-vars.true)

pub returns-else-k-vars : goal.returns-else-k-vars
unfolding variable_slot_lem
returns-else-k-vars c = simp (le-ltb _ _ c.if-k-vars.false)
