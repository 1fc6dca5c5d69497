use borrow.Author.Tests.{ne_eqb}
use mathlib.Core.Path.{refl}
use Rattle.rows.specs.Rows.{blocked_row}
use Rattle.octets.proofs.Tests.{tests}
use Rattle.changes.proofs.blocked.Goals as goal

pub returns-then-block-eq0 : goal.returns-then-block-eq0
unfolding blocked_row
returns-then-block-eq0 c = search tests

pub returns : goal.returns
unfolding blocked_row
returns c = rw (ne_eqb c.args.block 0 c.if-block-eq0.false) refl
