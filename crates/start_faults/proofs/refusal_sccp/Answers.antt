use mathlib.Core.Path.{◌∙◌}
use Rattle.sccp.specs.Table.{sccp}
use Rattle.cursor.proofs.Plainly.{refusal-here}
use Rattle.start_faults.proofs.refusal_sccp.Goals as goal

pub returns : goal.returns
returns c = c.refusal_in.ensures ∙ refusal-here sccp c.args.message.now _ _ c.kind_at-kind.ensures c.shape_of.ensures
