use Rattle.octets.proofs.Tests.{tests}
use Rattle.measuring.proofs.lacks.Goals as goal

pub returns-then-k-vars : goal.returns-then-k-vars
returns-then-k-vars c = search tests

pub returns : goal.returns
returns c = search tests
