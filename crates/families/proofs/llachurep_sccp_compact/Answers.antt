use Rattle.boundary.proofs.Gives.{written-given}
use Rattle.families.proofs.Roaming.{sccp-compact-fits}
use Rattle.families.proofs.llachurep_sccp_compact.Goals as goal

pub returns : goal.returns
returns c = written-given _ c.written.ensures c.compact.ensures (sccp-compact-fits _ _)
