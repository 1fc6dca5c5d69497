use Rattle.octets.proofs.Tests.{tests}
use Rattle.book.proofs.entries_await.Goals as goal

pub returns-then-left-eq0 : goal.returns-then-left-eq0
returns-then-left-eq0 c = search tests

pub returns : goal.returns
returns c = search tests
