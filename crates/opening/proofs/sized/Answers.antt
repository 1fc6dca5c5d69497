use Rattle.octets.proofs.Tests.{tests}
use Rattle.opening.proofs.sized.Goals as goal

pub returns-then-accepted-eq256 : goal.returns-then-accepted-eq256
returns-then-accepted-eq256 c = search tests

pub returns-else-accepted-eq256 : goal.returns-else-accepted-eq256
returns-else-accepted-eq256 c = search tests

pub returns-else-states-eq4096 : goal.returns-else-states-eq4096
returns-else-states-eq4096 c = search tests

pub returns-else-owners-eq4096 : goal.returns-else-owners-eq4096
returns-else-owners-eq4096 c = search tests
