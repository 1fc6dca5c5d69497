use Rattle.circuits.proofs.Refused.{written-call}
use Rattle.circuits.proofs.Small.{desk-fits}
use Rattle.circuits.proofs.llachurep_block.Goals as goal

pub returns : goal.returns
returns c = written-call _ c.written.ensures c.desk_call.ensures (desk-fits _ _ _ _ _)
