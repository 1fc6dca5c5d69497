use Rattle.octets.proofs.Told.{handed_on}
use Rattle.rights.specs.Tables.{tables}
use Rattle.hub.proofs.Deeds.{acts-refused, acts-done}
use Rattle.acting.proofs.act.Goals as goal

pub returns-in_err-done : goal.returns-in_err-done
returns-in_err-done c =
    rw (handed_on _ _ c.from_residual.ensures.1) (let a = c.args in acts-refused (tables a.states.now a.owners.now a.helpers.now) a.sender a.message.now a.answer.now _ _ _ c.handle.ensures _ c.in_err-done.was)

pub returns : goal.returns
returns c = let a = c.args in acts-done (tables a.states.now a.owners.now a.helpers.now) a.sender a.message.now a.answer.now _ _ _ c.handle.ensures _ c.in_ok-done.was
