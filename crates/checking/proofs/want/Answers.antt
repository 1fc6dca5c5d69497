use Rattle.octets.proofs.Tests.{tests}
use Rattle.checking.proofs.want.Goals as goal

pub returns-then-tick-eq0 : goal.returns-then-tick-eq0
returns-then-tick-eq0 c = search tests

pub returns : goal.returns
returns c = search tests
