use Rattle.boundary.proofs.Gives.{written-given}
use Rattle.numbers.proofs.Small.{number-write-fits}
use Rattle.numbers.proofs.llachurep_number_write.Goals as goal

pub returns : goal.returns
returns c =
    let a = c.args in
    written-given _ c.written.ensures c.write_number.ensures (number-write-fits a.nature a.plan a.internal a.signals.now a.out.now)
