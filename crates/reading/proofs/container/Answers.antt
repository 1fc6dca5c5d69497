use Rattle.layout.proofs.Whole.{container-cut}
use Rattle.reading.proofs.container.Goals as goal

pub returns-then-octets-end : goal.returns-then-octets-end
returns-then-octets-end c = let a = c.args in container-cut a.octets.now a.width a.shape _ c.pointers_end-end.ensures c.if-octets-end.true
