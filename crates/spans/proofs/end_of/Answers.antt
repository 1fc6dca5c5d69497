use Rattle.octets.proofs.Tests.{tests}
use Rattle.spans.specs.Inside.{span_end}
use Rattle.spans.proofs.end_of.Goals as goal

pub returns-then-last-length : goal.returns-then-last-length
unfolding span_end
returns-then-last-length c = search tests

pub returns : goal.returns
unfolding span_end
returns c = search tests
