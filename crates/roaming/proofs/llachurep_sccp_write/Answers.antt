use Rattle.boundary.proofs.Gives.{written-given}
use Rattle.roaming.proofs.Instances.{sccp-write-fits}
use Rattle.roaming.proofs.llachurep_sccp_write.Goals as goal

pub returns : goal.returns
returns c = written-given _ c.written.ensures c.write.ensures (sccp-write-fits _ _ _ _ _ _ _)
