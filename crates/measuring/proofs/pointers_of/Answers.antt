use Rattle.measuring.proofs.Outcome.{pointing}
use Rattle.measuring.proofs.pointers_of.Goals as goal

pub returns : goal.returns
returns c = let a = c.args in
    pointing a.shape a.lengths _ _ c.gap_of-first.ensures.0 c.reach_of-last.ensures
