use Rattle.octets.proofs.Tests.{tests}
use Rattle.measuring.proofs.reach_of.Goals as goal

pub returns-then-r-gt0 : goal.returns-then-r-gt0
returns-then-r-gt0 c = search tests

pub returns : goal.returns
returns c = search tests
