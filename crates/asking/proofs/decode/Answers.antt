use Rattle.octets.proofs.Told.{handed_on}
use Rattle.asks.proofs.Reading.{placed, looked-so}
use Rattle.asks.proofs.Given.{read-refused, read-message, read_asked}
use Rattle.isup.proofs.Exactly.{read-exactly}
use mathlib.Core.Path.{◌∙◌}
use Rattle.asking.proofs.decode.Goals as goal

pub ask_in-requires : goal.ask_in-requires
ask_in-requires c = placed _ _ ((read-exactly _ _).0 (read-message _ _ c.read.ensures _ c.in_ok-x.was)) (λ i. (c.type_inv.message i).fits)

pub returns-in_err-x : goal.returns-in_err-x
returns-in_err-x c =
    rw (handed_on _ _ c.from_residual.ensures.1) (let a = c.args in read-refused a.message.now _ c.read.ensures _ c.in_err-x.was)

pub returns : goal.returns
returns c = let a = c.args in c.ask_in.ensures ∙ looked-so a.message.now c.in_ok-x.x ∙ read_asked a.message.now _ c.read.ensures _ c.in_ok-x.was
