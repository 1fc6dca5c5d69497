use mathlib.Core.Path.{◌∙◌, ap}
use Rattle.forms.specs.Table.{forms}
use Rattle.forms.specs.Inside.{row_in}
use Rattle.forms.proofs.form_of.Goals as goal

pub returns : goal.returns
returns c = c.row_of.ensures ∙ ap (row_in forms 0) c.key.ensures
