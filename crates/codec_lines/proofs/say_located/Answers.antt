use Rattle.std.specs.Prelude.{Result, Ok}
use Rattle.octets.specs.declared.Refusal.{Refusal}
use Rattle.finding.specs.Told.{located_told}
use Rattle.finding.specs.declared.Located.{Located}
use Rattle.printing.specs.Sheet.{sheet, pour}
use Rattle.codec_lines.specs.Codec.{found_line}
use mathlib.Core.Path.{sym, ◌∙◌, ap}
use Rattle.codec_lines.proofs.say_located.Goals as goal

pub returns-in-Ok-Message : goal.returns-in-Ok-Message
unfolding found_line
returns-in-Ok-Message c = (rw c.stretch.ensures at c.put_shown.ensures) ∙ ap (λ (x : Result Located Refusal). pour (sheet c.args.out.now 0) (found_line c.args.message.now c.args.defaults.now (located_told x))) (sym (c.in-Ok-Message.is ∙ ap Ok (rw c.in-Ok-Message.is at c.in-Ok-Message.field-0-is)))

pub returns-in-Ok-Defaults : goal.returns-in-Ok-Defaults
unfolding found_line
returns-in-Ok-Defaults c = (rw c.stretch-in-Ok-Defaults.ensures at c.put_shown-in-Ok-Defaults.ensures) ∙ ap (λ (x : Result Located Refusal). pour (sheet c.args.out.now 0) (found_line c.args.message.now c.args.defaults.now (located_told x))) (sym (c.in-Ok-Defaults.is ∙ ap Ok (rw c.in-Ok-Defaults.is at c.in-Ok-Defaults.field-0-is)))

pub returns-in-Err : goal.returns-in-Err
unfolding found_line
returns-in-Err c = (rw (c.number.ensures, c.place.ensures) at c.say_fault.ensures) ∙ ap (λ (x : Result Located Refusal). pour (sheet c.args.out.now 0) (found_line c.args.message.now c.args.defaults.now (located_told x))) (sym c.in-Err.is)
