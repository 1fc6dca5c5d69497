use Rattle.lines.proofs.Pouring.{and_then}
use Rattle.sayings.proofs.put_shown.Goals as goal

pub returns : goal.returns
returns c = and_then _ _ _ c.put_text-next.ensures c.put_octets.ensures
