use Rattle.octets.proofs.Told.{handed_on}
use Rattle.rights.specs.Tables.{tables}
use Rattle.board.proofs.Kept.{board-short, board-refused, board-done}
use Rattle.counting.proofs.act.Goals as goal

pub returns-then-totals-ne-BLOCKS : goal.returns-then-totals-ne-BLOCKS
returns-then-totals-ne-BLOCKS c = let a = c.args in board-short (tables a.states.now a.owners.now a.helpers.now) a.totals.now a.sender a.message.now a.answer.now c.if-totals-ne-BLOCKS.true

pub returns-in_err-done : goal.returns-in_err-done
returns-in_err-done c =
    rw (handed_on _ _ c.from_residual.ensures.1) (let a = c.args in board-refused (tables a.states.now a.owners.now a.helpers.now) a.totals.now a.sender a.message.now a.answer.now c.if-totals-ne-BLOCKS.false _ _ _ c.handle.ensures _ c.in_err-done.was)

pub returns : goal.returns
returns c = let a = c.args in board-done (tables a.states.now a.owners.now a.helpers.now) a.totals.now a.sender a.message.now a.answer.now c.if-totals-ne-BLOCKS.false _ _ _ c.handle.ensures _ _ c.in_ok-done.was c.recount.ensures
