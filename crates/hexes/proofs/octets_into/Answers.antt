use Rattle.octets.proofs.Tests.{tests}
use Rattle.words.specs.Into.{octets_into_lem}
use Rattle.hexes.proofs.octets_into.Goals as goal

pub returns-then-word-eq45 : goal.returns-then-word-eq45
unfolding octets_into_lem
returns-then-word-eq45 c = search tests

pub returns-then-word-eq1 : goal.returns-then-word-eq1
unfolding octets_into_lem
returns-then-word-eq1 c = search tests

pub returns-then-word-eq0 : goal.returns-then-word-eq0
unfolding octets_into_lem
returns-then-word-eq0 c = search tests

pub returns-then-most-word : goal.returns-then-most-word
unfolding octets_into_lem
returns-then-most-word c = search tests

pub returns-then-word-eq1-2 : goal.returns-then-word-eq1-2
unfolding octets_into_lem
returns-then-word-eq1-2 c = search tests

pub returns-then-out-at : goal.returns-then-out-at
unfolding octets_into_lem
returns-then-out-at c = search tests

pub returns-then-out-at-2 : goal.returns-then-out-at-2
unfolding octets_into_lem
returns-then-out-at-2 c = search tests

pub returns : goal.returns
unfolding octets_into_lem
returns c = search tests
