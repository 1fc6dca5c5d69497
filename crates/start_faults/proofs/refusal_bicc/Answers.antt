use mathlib.Core.Path.{◌∙◌}
use Rattle.bicc.specs.Table.{bicc}
use Rattle.cursor.proofs.Plainly.{refusal-here}
use Rattle.start_faults.proofs.refusal_bicc.Goals as goal

pub returns : goal.returns
returns c = c.refusal_in.ensures ∙ refusal-here bicc c.args.message.now _ _ c.kind_at-kind.ensures c.shape_of.ensures
