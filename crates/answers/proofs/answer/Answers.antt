use mathlib.Core.Path.{refl, ◌∙◌, ap}
use Rattle.answers.specs.Answers.{with_line_end}
use Rattle.turns.proofs.Determined.{desk-left-same}
use Rattle.answers.proofs.answer.Goals as goal

pub returns : goal.returns
returns c = desk-left-same refl c.put_octet.ensures ∙ ap with_line_end c.answer_line-end.ensures
