use Rattle.totals.proofs.Counting.{rebuild-states, rebuild-totals, rebuild-done}
use Rattle.blocks.proofs.rebuild.Goals as goal

pub returns-then-states-ne-CIRCUITS : goal.returns-then-states-ne-CIRCUITS
returns-then-states-ne-CIRCUITS c = let a = c.args in rebuild-states a.states.now a.totals.now c.if-states-ne-CIRCUITS.true

pub returns-then-totals-ne-BLOCKS : goal.returns-then-totals-ne-BLOCKS
returns-then-totals-ne-BLOCKS c = let a = c.args in rebuild-totals a.states.now a.totals.now c.if-states-ne-CIRCUITS.false c.if-totals-ne-BLOCKS.true

pub returns : goal.returns
returns c =
    let a = c.args in
    rebuild-done a.states.now a.totals.now c.if-states-ne-CIRCUITS.false c.if-totals-ne-BLOCKS.false _ c.recount.ensures
