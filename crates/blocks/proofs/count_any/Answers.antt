use Rattle.std.proofs.Common.{sym, ◌∙◌, arith}
use Rattle.totals.proofs.Recounted.{counted_step, counted_stop, counted-end}
use Rattle.blocks.proofs.count_any.Goals as goal

pub returns-then-block-last : goal.returns-then-block-last
returns-then-block-last c =
    let a = c.args in
    let l = c.loop-block in
    counted_stop a.states.now l.block a.last l.totals (omega arith) ∙ l.invariant

pub loop-block-preserved : goal.loop-block-preserved
loop-block-preserved c =
    let a = c.args in
    let l = c.loop-block in
    sym (counted_step a.states.now l.block a.last l.totals c.block_count.result (omega arith) c.block_count.ensures) ∙ l.invariant

pub returns : goal.returns
returns c =
    let a = c.args in
    let l = c.loop-block in
    counted-end a.states.now l.block a.last l.totals (omega arith) ∙ l.invariant
