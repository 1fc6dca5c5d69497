use Rattle.boundary.proofs.Gives.{written-given}
use Rattle.nights.proofs.Small.{plan-fits}
use Rattle.nights.proofs.llachurep_plan.Goals as goal

pub returns : goal.returns
returns c = written-given _ c.written.ensures c.plan.ensures (plan-fits _ _ _ _ _)
