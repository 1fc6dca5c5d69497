use Rattle.day.specs.Day.{day}
use Rattle.day.proofs.Told.{counted-taken, counted-refused}
use Rattle.hearing.proofs.heard_in.Goals as goal

pub returns-then-hear : goal.returns-then-hear
returns-then-hear c =
    let a = c.args in
    counted-taken (day a.owners.now a.states.now a.accepted.now a.refused.now) a.sender a.message.now c.hear.ensures c.if-hear.true c.count_one.ensures

pub returns : goal.returns
returns c =
    let a = c.args in
    counted-refused (day a.owners.now a.states.now a.accepted.now a.refused.now) a.sender a.message.now c.hear.ensures c.if-hear.false c.count_one-2.ensures
