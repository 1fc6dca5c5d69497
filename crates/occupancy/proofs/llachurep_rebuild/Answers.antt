use Rattle.boundary.proofs.Gives.{written-given}
use Rattle.occupancy.proofs.Small.{rebuild-fits}
use Rattle.occupancy.proofs.llachurep_rebuild.Goals as goal

pub returns : goal.returns
returns c = written-given _ c.written.ensures c.rebuild.ensures (rebuild-fits _ _)
