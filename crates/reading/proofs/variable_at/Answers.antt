use Rattle.layout.proofs.Pointed.{at-points}
use Rattle.reading.proofs.variable_at.Goals as goal

pub variable_from-requires : goal.variable_from-requires
variable_from-requires c = let a = c.args in (at-points a.octets.now a.p a.end _ c.target_of.ensures _ c.in_ok-t.was).within
