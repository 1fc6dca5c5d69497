use Rattle.octets.proofs.Told.{handed_on}
use native.Mathlib.Omega.{arith}
use Rattle.asks.proofs.Reading.{ask-last}
use Rattle.rights.specs.Tables.{tables}
use Rattle.hub.proofs.Given.{act-refused, act-fair, act-sound, act-short, act-done}
use Rattle.hub.proofs.Deeds.{handle-refused, handle-done}
use Rattle.handling.proofs.handle.Goals as goal

pub write_reply-requires : goal.write_reply-requires
write_reply-requires c = let a = c.args in ((act-fair (tables a.states.now a.owners.now a.helpers.now) a.sender a.message.now a.answer.now _ c.judge.ensures _ c.in_ok-ask.was).states-sized, act-sound (tables a.states.now a.owners.now a.helpers.now) a.sender a.message.now a.answer.now _ c.judge.ensures _ c.in_ok-ask.was (λ i. (c.type_inv.message i).fits))

pub change_rows-requires : goal.change_rows-requires
change_rows-requires c = let a = c.args in ((act-fair (tables a.states.now a.owners.now a.helpers.now) a.sender a.message.now a.answer.now _ c.judge.ensures _ c.in_ok-ask.was).states-sized, act-sound (tables a.states.now a.owners.now a.helpers.now) a.sender a.message.now a.answer.now _ c.judge.ensures _ c.in_ok-ask.was (λ i. (c.type_inv.message i).fits))

pub overflow_add-last : goal.overflow_add-last
overflow_add-last c = let a = c.args in omega (arith, ask-last _ _ (act-fair (tables a.states.now a.owners.now a.helpers.now) a.sender a.message.now a.answer.now _ c.judge.ensures _ c.in_ok-ask.was).asks)

pub returns-in_err-ask : goal.returns-in_err-ask
returns-in_err-ask c =
    rw (handed_on _ _ c.from_residual.ensures.1) (let a = c.args in handle-refused (tables a.states.now a.owners.now a.helpers.now) a.sender a.message.now a.answer.now _ _ _ _ (act-refused (tables a.states.now a.owners.now a.helpers.now) a.sender a.message.now a.answer.now _ c.judge.ensures _ c.in_err-ask.was))

pub returns-in_err-count : goal.returns-in_err-count
returns-in_err-count c =
    rw (handed_on _ _ c.from_residual-in_err-count.ensures.1) (let a = c.args in handle-refused (tables a.states.now a.owners.now a.helpers.now) a.sender a.message.now a.answer.now _ _ _ _ (act-short (tables a.states.now a.owners.now a.helpers.now) a.sender a.message.now a.answer.now _ c.judge.ensures _ c.in_ok-ask.was _ _ c.write_reply.ensures _ c.in_err-count.was))

pub returns : goal.returns
returns c = let a = c.args in handle-done (tables a.states.now a.owners.now a.helpers.now) a.sender a.message.now a.answer.now _ _ _ _ (act-fair (tables a.states.now a.owners.now a.helpers.now) a.sender a.message.now a.answer.now _ c.judge.ensures _ c.in_ok-ask.was).asks (act-done (tables a.states.now a.owners.now a.helpers.now) a.sender a.message.now a.answer.now _ c.judge.ensures _ c.in_ok-ask.was _ _ c.write_reply.ensures _ _ c.in_ok-count.was c.change_rows.ensures)
