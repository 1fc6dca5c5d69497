use Rattle.octets.proofs.Told.{handed_on}
use Rattle.board.proofs.Kept.{desk-board-short, desk-board-refused, desk-board-done}
use Rattle.counting.proofs.desk_call.Goals as goal

pub returns-then-totals-ne-BLOCKS : goal.returns-then-totals-ne-BLOCKS
returns-then-totals-ne-BLOCKS c = let a = c.args in desk-board-short a.states.now a.totals.now a.circuit a.set a.answer.now c.if-totals-ne-BLOCKS.true

pub returns-in_err-n : goal.returns-in_err-n
returns-in_err-n c =
    rw (handed_on _ _ c.from_residual.ensures.1) (let a = c.args in desk-board-refused a.states.now a.totals.now a.circuit a.set a.answer.now c.if-totals-ne-BLOCKS.false _ _ _ c.desk_call.ensures _ c.in_err-n.was)

pub returns : goal.returns
returns c = let a = c.args in desk-board-done a.states.now a.totals.now a.circuit a.set a.answer.now c.if-totals-ne-BLOCKS.false _ _ _ c.desk_call.ensures _ _ c.in_ok-n.was c.recount.ensures
