use Rattle.lines.proofs.Pouring.{and_then}
use Rattle.sayings.proofs.put_count.Goals as goal

pub returns : goal.returns
returns c = and_then _ _ _ c.put_text-next.ensures c.put_number.ensures
