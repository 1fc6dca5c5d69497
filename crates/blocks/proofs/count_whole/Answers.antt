use Rattle.std.proofs.Common.{sym, ◌∙◌, arith}
use Rattle.totals.proofs.Recounted.{counted_step, counted_stop}
use Rattle.blocks.proofs.count_whole.Goals as goal

pub loop-block-preserved : goal.loop-block-preserved
loop-block-preserved c =
    let a = c.args in
    let l = c.loop-block in
    sym (counted_step a.states.now l.block a.last l.totals c.busy_rows.result (omega arith) c.busy_rows.ensures) ∙ l.invariant

pub returns : goal.returns
returns c =
    let a = c.args in
    let l = c.loop-block in
    counted_stop a.states.now l.block a.last l.totals (omega arith) ∙ l.invariant
