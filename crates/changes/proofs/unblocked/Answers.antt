use Rattle.rows.specs.Rows.{unblocked_row}
use Rattle.octets.proofs.Tests.{tests}
use Rattle.changes.proofs.unblocked.Goals as goal

pub returns-then-block-eq0 : goal.returns-then-block-eq0
unfolding unblocked_row
returns-then-block-eq0 c = search tests

pub returns : goal.returns
unfolding unblocked_row
returns c = search tests
