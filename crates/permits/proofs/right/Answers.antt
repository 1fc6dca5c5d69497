use mathlib.Core.Path.{refl, sym, ◌∙◌}
use Rattle.permits.proofs.right.Goals as goal

pub returns-then-mine : goal.returns-then-mine
returns-then-mine c = rw (sym c.mine.ensures ∙ c.if-mine.true) refl

pub returns : goal.returns
returns c = rw (sym c.mine.ensures ∙ c.if-mine.false) c.mine-2.ensures
