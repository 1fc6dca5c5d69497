use Rattle.std.specs.Prelude.{Ok}
use mathlib.Core.Path.{sym, ◌∙◌, ap}
use Rattle.finding.specs.Find.{code_of}
use Rattle.finding.specs.Told.{located_told}
use Rattle.locating.proofs.find_or_default_code.Goals as goal

pub returns-in-Ok-Message : goal.returns-in-Ok-Message
returns-in-Ok-Message c = ap code_of (sym (ap located_told (c.in-Ok-Message.is ∙ ap Ok c.in-Ok-Message.field-0-is)) ∙ c.locate.ensures)

pub returns-in-Ok-Defaults : goal.returns-in-Ok-Defaults
returns-in-Ok-Defaults c = ap code_of (sym (ap located_told (c.in-Ok-Defaults.is ∙ ap Ok c.in-Ok-Defaults.field-0-is)) ∙ c.locate.ensures)

pub returns-in-Err : goal.returns-in-Err
returns-in-Err c = rw (c.number.ensures, c.place.ensures) (ap code_of (sym (ap located_told c.in-Err.is) ∙ c.locate.ensures))
