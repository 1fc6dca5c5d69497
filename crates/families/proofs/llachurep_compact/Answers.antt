use Rattle.boundary.proofs.Gives.{written-given}
use Rattle.families.proofs.Rewriting.{compact-fits}
use Rattle.families.proofs.llachurep_compact.Goals as goal

pub returns : goal.returns
returns c = written-given _ c.written.ensures c.compact.ensures (compact-fits _ _)
