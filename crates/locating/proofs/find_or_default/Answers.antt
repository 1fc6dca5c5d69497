use Rattle.std.specs.Prelude.{Ok}
use mathlib.Core.Path.{refl, sym, ◌∙◌, ap}
use native.Mathlib.Omega.{arith}
use native.Mathlib.Nat.{add-sub_cancel_left}
use Rattle.finding.specs.Told.{located_told}
use Rattle.finding.proofs.Spots.{in-message-inside, in-defaults-inside}
use Rattle.locating.proofs.find_or_default.Goals as goal

pub overflow_add-result : goal.overflow_add-result
overflow_add-result c = let a = c.args in omega (arith, in-message-inside a.message.now a.defaults.now a.name _ _ (sym c.locate.ensures ∙ ap located_told (c.in-Ok-Message.is ∙ ap Ok c.in-Ok-Message.field-0-is)))

pub slice_bounds-result-end : goal.slice_bounds-result-end
slice_bounds-result-end c = let a = c.args in omega (arith, in-message-inside a.message.now a.defaults.now a.name _ _ (sym c.locate.ensures ∙ ap located_told (c.in-Ok-Message.is ∙ ap Ok c.in-Ok-Message.field-0-is)))

pub overflow_add-result-in-Ok-Defaults : goal.overflow_add-result-in-Ok-Defaults
overflow_add-result-in-Ok-Defaults c = let a = c.args in omega (arith, in-defaults-inside a.message.now a.defaults.now a.name _ _ (sym c.locate.ensures ∙ ap located_told (c.in-Ok-Defaults.is ∙ ap Ok c.in-Ok-Defaults.field-0-is)))

pub slice_bounds-result-end-in-Ok-Defaults : goal.slice_bounds-result-end-in-Ok-Defaults
slice_bounds-result-end-in-Ok-Defaults c = let a = c.args in omega (arith, in-defaults-inside a.message.now a.defaults.now a.name _ _ (sym c.locate.ensures ∙ ap located_told (c.in-Ok-Defaults.is ∙ ap Ok c.in-Ok-Defaults.field-0-is)))

pub returns-in-Ok-Message : goal.returns-in-Ok-Message
returns-in-Ok-Message c = rw (sym c.locate.ensures ∙ ap located_told (c.in-Ok-Message.is ∙ ap Ok c.in-Ok-Message.field-0-is)) (record { here = refl; holds = rw add-sub_cancel_left })

pub returns-in-Ok-Defaults : goal.returns-in-Ok-Defaults
returns-in-Ok-Defaults c = rw (sym c.locate.ensures ∙ ap located_told (c.in-Ok-Defaults.is ∙ ap Ok c.in-Ok-Defaults.field-0-is)) (record { here = refl; holds = rw add-sub_cancel_left })

pub returns-in-Err : goal.returns-in-Err
returns-in-Err c = rw (sym c.locate.ensures ∙ ap located_told c.in-Err.is) (record { here = refl; holds = refl })
