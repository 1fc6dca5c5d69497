use mathlib.Core.Path.{refl}
use Rattle.rows.specs.Rows.{local_row}
use Rattle.changes.proofs.local_block.Goals as goal

pub returns-then-set : goal.returns-then-set
unfolding local_row
returns-then-set c = rw c.if-set.true refl

pub returns : goal.returns
unfolding local_row
returns c = rw c.if-set.false refl
