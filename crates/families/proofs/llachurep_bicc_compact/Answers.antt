use Rattle.boundary.proofs.Gives.{written-given}
use Rattle.families.proofs.Calling.{call-compact-fits}
use Rattle.families.proofs.llachurep_bicc_compact.Goals as goal

pub returns : goal.returns
returns c = written-given _ c.written.ensures c.compact.ensures (call-compact-fits _ _)
