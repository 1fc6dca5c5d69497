use Rattle.octets.proofs.Tests.{tests}
use Rattle.sizes.proofs.sized.Goals as goal

pub returns-then-states-ne-CIRCUITS : goal.returns-then-states-ne-CIRCUITS
returns-then-states-ne-CIRCUITS c = search tests

pub returns-then-owners-ne-CIRCUITS : goal.returns-then-owners-ne-CIRCUITS
returns-then-owners-ne-CIRCUITS c = search tests

pub returns-then-helpers-ne-CIRCUITS : goal.returns-then-helpers-ne-CIRCUITS
returns-then-helpers-ne-CIRCUITS c = search tests

pub returns-then-totals-ne-BLOCKS : goal.returns-then-totals-ne-BLOCKS
returns-then-totals-ne-BLOCKS c = search tests

pub returns : goal.returns
returns c = search tests
