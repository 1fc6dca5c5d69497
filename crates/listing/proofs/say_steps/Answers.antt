use Rattle.std.specs.Prelude.{Option}
use Rattle.runs.specs.declared.Field.{Field}
use mathlib.Core.Path.{sym, ◌∙◌, ap}
use Rattle.printing.specs.Sheet.{sheet, pour}
use Rattle.lines.proofs.Pouring.{and_then}
use Rattle.list_lines.specs.Lists.{list_from}
use Rattle.listing.proofs.say_steps.Goals as goal

pub returns-in-None : goal.returns-in-None
returns-in-None c =
    let a = c.args in
    c.put_text.ensures ∙ ap (λ (x : Option Field). pour (sheet a.out.now 0) (list_from a.message.now a.start x)) (sym c.in-None.is ∙ c.step_of.ensures)

pub returns-in-Some : goal.returns-in-Some
returns-in-Some c =
    let a = c.args in
    and_then _ _ _ c.put_text-word.ensures c.put_steps.ensures ∙ ap (λ (x : Option Field). pour (sheet a.out.now 0) (list_from a.message.now a.start x)) (sym c.in-Some.is ∙ c.step_of.ensures)
