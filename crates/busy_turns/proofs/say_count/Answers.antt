use Rattle.lines.proofs.Pouring.{and_then}
use Rattle.busy_turns.proofs.say_count.Goals as goal

pub returns : goal.returns
returns c = and_then _ _ _ c.put_count-next.ensures c.put_count.ensures
