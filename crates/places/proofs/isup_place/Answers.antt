use mathlib.Core.Path.{◌∙◌}
use Rattle.isup.specs.Table.{isup}
use Rattle.cursor.proofs.Plainly.{start-here}
use Rattle.places.proofs.isup_place.Goals as goal

pub returns : goal.returns
returns c = c.place_in.ensures ∙ start-here isup c.args.message.now _ _ c.kind_at-kind.ensures c.shape_of.ensures
