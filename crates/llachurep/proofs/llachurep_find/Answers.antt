use Rattle.std.specs.Prelude.{Ok}
use Rattle.boundary.proofs.Gives.{refusal-given}
use Rattle.llachurep.proofs.Gives.{find-refused, find-given}
use Rattle.finding.specs.Told.{located_told}
use Rattle.finding.proofs.Places.{find-places-within}
use native.Mathlib.Omega.{arith}
use mathlib.Core.Path.{sym, ◌∙◌, ap}
use Rattle.llachurep.proofs.llachurep_find.Goals as goal

pub returns-in-Ok-Message : goal.returns-in-Ok-Message
returns-in-Ok-Message c = c.give_stretch.ensures ∙ find-given c.args.message.now c.args.defaults.now c.args.name c.args.stretch.now _ (sym c.locate.ensures ∙ ap located_told (c.in-Ok-Message.is ∙ ap Ok c.in-Ok-Message.field-0-is))

pub returns-in-Ok-Defaults : goal.returns-in-Ok-Defaults
returns-in-Ok-Defaults c = c.give_stretch-in-Ok-Defaults.ensures ∙ find-given c.args.message.now c.args.defaults.now c.args.name c.args.stretch.now _ (sym c.locate.ensures ∙ ap located_told (c.in-Ok-Defaults.is ∙ ap Ok c.in-Ok-Defaults.field-0-is))

pub returns-in-Err : goal.returns-in-Err
returns-in-Err c = refusal-given _ _ c.refused.ensures (let a = c.args in omega (arith, find-places-within a.message.now a.defaults.now a.name _ _ (sym c.locate.ensures ∙ ap located_told c.in-Err.is))) (find-refused c.args.message.now c.args.defaults.now c.args.name c.args.stretch.now _ _ (sym c.locate.ensures ∙ ap located_told c.in-Err.is))
