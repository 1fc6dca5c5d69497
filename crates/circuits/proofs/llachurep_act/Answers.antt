use Rattle.circuits.proofs.Refused.{written-call}
use Rattle.circuits.proofs.Small.{act-fits}
use Rattle.circuits.proofs.llachurep_act.Goals as goal

pub returns : goal.returns
returns c = written-call _ c.written.ensures c.act.ensures (act-fits _ _ _ _ _ (λ i. (c.type_inv.message i).fits))
