use Rattle.octets.proofs.Tests.{tests}
use Rattle.measuring.proofs.count_of.Goals as goal

pub returns-then-vars-lt3 : goal.returns-then-vars-lt3
returns-then-vars-lt3 c = search tests

pub returns : goal.returns
returns c = search tests
