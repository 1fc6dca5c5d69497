use Rattle.boundary.proofs.Gives.{written-given}
use Rattle.llachurep.proofs.Places.{write-fits}
use Rattle.llachurep.proofs.llachurep_write.Goals as goal

pub returns : goal.returns
returns c = written-given _ c.written.ensures c.write.ensures (write-fits _ _ _ _ _ _ _)
