use Rattle.lines.proofs.Pouring.{and_then}
use Rattle.listing.proofs.put_param.Goals as goal

pub returns : goal.returns
returns c = and_then _ _ _ c.put_shown-name.ensures (rw c.stretch.ensures at c.put_shown.ensures)
