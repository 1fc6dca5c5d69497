use Rattle.octets.proofs.Tests.{tests}
use Rattle.parts.proofs.contents_of.Goals as goal

pub returns-then-part : goal.returns-then-part
returns-then-part c = search tests

pub returns : goal.returns
returns c = search tests
