use mathlib.Core.Path.{◌∙◌}
use Rattle.bicc.specs.Table.{bicc}
use Rattle.cursor.proofs.Plainly.{start-here}
use Rattle.places.proofs.bicc_place.Goals as goal

pub returns : goal.returns
returns c = c.place_in.ensures ∙ start-here bicc c.args.message.now _ _ c.kind_at-kind.ensures c.shape_of.ensures
