use Rattle.totals.proofs.Counting.{busy-states, busy-totals, busy-9, busy-18, busy-done}
use Rattle.blocks.proofs.busy_between.Goals as goal

pub returns-then-states-ne-CIRCUITS : goal.returns-then-states-ne-CIRCUITS
returns-then-states-ne-CIRCUITS c = let a = c.args in busy-states a.states.now a.totals.now a.first a.last c.if-states-ne-CIRCUITS.true

pub returns-then-totals-ne-BLOCKS : goal.returns-then-totals-ne-BLOCKS
returns-then-totals-ne-BLOCKS c = let a = c.args in busy-totals a.states.now a.totals.now c.if-states-ne-CIRCUITS.false a.first a.last c.if-totals-ne-BLOCKS.true

pub returns-then-last-gt4095 : goal.returns-then-last-gt4095
returns-then-last-gt4095 c = let a = c.args in busy-9 a.states.now a.totals.now c.if-states-ne-CIRCUITS.false c.if-totals-ne-BLOCKS.false a.first a.last c.if-last-gt4095.true

pub returns-then-first-last : goal.returns-then-first-last
returns-then-first-last c =
    let a = c.args in
    busy-18 a.states.now a.totals.now c.if-states-ne-CIRCUITS.false c.if-totals-ne-BLOCKS.false a.first a.last c.if-last-gt4095.false c.if-first-last.true

pub returns : goal.returns
returns c =
    let a = c.args in
    busy-done a.states.now a.totals.now c.if-states-ne-CIRCUITS.false c.if-totals-ne-BLOCKS.false a.first a.last c.if-last-gt4095.false c.if-first-last.false _ c.count_between.ensures
