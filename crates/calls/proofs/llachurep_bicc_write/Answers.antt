use Rattle.boundary.proofs.Gives.{written-given}
use Rattle.calls.proofs.Instances.{call-write-fits}
use Rattle.calls.proofs.llachurep_bicc_write.Goals as goal

pub returns : goal.returns
returns c = written-given _ c.written.ensures c.write.ensures (call-write-fits _ _ _ _ _ _ _)
