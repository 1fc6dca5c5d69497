use mathlib.Core.Path.{◌∙◌}
use Rattle.sccp.specs.Table.{sccp}
use Rattle.cursor.proofs.Plainly.{start-here}
use Rattle.places.proofs.sccp_place.Goals as goal

pub returns : goal.returns
returns c = c.place_in.ensures ∙ start-here sccp c.args.message.now _ _ c.kind_at-kind.ensures c.shape_of.ensures
