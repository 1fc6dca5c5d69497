use mathlib.Core.Path.{◌∙◌}
use Rattle.layout.specs.Container.{optional_slot_lem}
use Rattle.reading.proofs.optional_slot.Goals as goal

pub returns-then-opt : goal.returns-then-opt
unfolding optional_slot_lem
returns-then-opt c = c.optional_at.ensures ∙ simp c.if-opt.true

pub returns-else-opt : goal.returns-else-opt
unfolding optional_slot_lem
returns-else-opt c = simp c.if-opt.false
