use Rattle.totals.proofs.Counting.{counted-whole, counted-loose}
use Rattle.blocks.proofs.count_between.Goals as goal

pub returns-then-from-to : goal.returns-then-from-to
returns-then-from-to c =
    let a = c.args in
    counted-whole a.states.now a.totals.now a.first a.last c.if-from-to.true _ _ _ c.busy_rows.ensures c.blocks_sum.ensures.0 c.busy_rows-then-from-to.ensures

pub returns : goal.returns
returns c =
    let a = c.args in
    counted-loose a.states.now a.totals.now a.first a.last c.if-from-to.false _ c.busy_rows-2.ensures
