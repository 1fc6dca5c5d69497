use Rattle.octets.specs.Told.{told}
use Rattle.number.specs.declared.Number.{Number}
use Rattle.octets.specs.Filled.{Done}
use Rattle.numbers.proofs.Small.{count_small}
use native.Mathlib.Omega.{arith}
use mathlib.Core.Path.{sym, ◌∙◌, ap}
use Rattle.numbers.proofs.llachurep_number_read.Goals as goal

pub overflow_add-result-in-Ok-2 : goal.overflow_add-result-in-Ok-2
overflow_add-result-in-Ok-2 c = omega (arith, count_small c.args.contents.now c.args.signals.now _ (sym (ap (λ (d : Done Number). d.answer) c.read_number.ensures) ∙ ap told c.in-Ok.is))
