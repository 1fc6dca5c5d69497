use Rattle.octets.proofs.Tests.{tests}
use Rattle.forms.specs.Inside.{letter_of}
use Rattle.forms.proofs.letter.Goals as goal

pub returns-then-c-gt122 : goal.returns-then-c-gt122
unfolding letter_of
returns-then-c-gt122 c = search tests

pub returns-then-c-gt96 : goal.returns-then-c-gt96
unfolding letter_of
returns-then-c-gt96 c = search tests

pub returns-then-c-eq45 : goal.returns-then-c-eq45
unfolding letter_of
returns-then-c-eq45 c = search tests

pub returns : goal.returns
unfolding letter_of
returns c = search tests
