use Rattle.octets.specs.Told.{told}
use Rattle.printing.specs.Sheet.{sheet, pour}
use Rattle.isup.specs.declared.Message.{Message}
use Rattle.octets.specs.Answer.{Answer}
use Rattle.read_lines.specs.Read.{read_line}
use mathlib.Core.Path.{sym, ◌∙◌, ap}
use Rattle.message_lines.proofs.say_read.Goals as goal

pub returns-in-Err : goal.returns-in-Err
unfolding read_line
returns-in-Err c = (rw (c.number.ensures, c.place.ensures) at c.say_fault.ensures) ∙ ap (λ (x : Answer Message). pour (sheet c.args.out.now 0) (read_line c.args.message.now x)) (sym (ap told c.in-Err.is) ∙ c.read.ensures)

pub returns-in-Ok : goal.returns-in-Ok
returns-in-Ok c = c.say_message.ensures ∙ ap (λ (x : Answer Message). pour (sheet c.args.out.now 0) (read_line c.args.message.now x)) (sym (ap told c.in-Ok.is) ∙ c.read.ensures)
