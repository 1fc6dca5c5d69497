use Rattle.octets.proofs.Tests.{tests}
use Rattle.fields.specs.Letters.{most_of}
use Rattle.typing.proofs.most.Goals as goal

pub returns-then-letter-eq99 : goal.returns-then-letter-eq99
unfolding most_of
returns-then-letter-eq99 c = search tests

pub returns-then-letter-eq118 : goal.returns-then-letter-eq118
unfolding most_of
returns-then-letter-eq118 c = search tests

pub returns-then-letter-eq98 : goal.returns-then-letter-eq98
unfolding most_of
returns-then-letter-eq98 c = search tests

pub returns-then-letter-eq104 : goal.returns-then-letter-eq104
unfolding most_of
returns-then-letter-eq104 c = search tests

pub returns-then-letter-eq114 : goal.returns-then-letter-eq114
unfolding most_of
returns-then-letter-eq114 c = search tests

pub returns-then-letter-eq112 : goal.returns-then-letter-eq112
unfolding most_of
returns-then-letter-eq112 c = search tests

pub returns : goal.returns
unfolding most_of
returns c = search tests
