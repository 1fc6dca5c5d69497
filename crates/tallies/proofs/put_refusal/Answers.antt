use Rattle.tallies.proofs.Reported.{then-put}
use Rattle.tallies.proofs.put_refusal.Goals as goal

pub returns : goal.returns
returns c = then-put _ _ 10 (rw c.number.ensures at c.say_refusal-next.ensures) c.put_octet.ensures
