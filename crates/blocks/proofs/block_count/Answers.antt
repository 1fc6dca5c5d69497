use Rattle.std.proofs.Common.{◌∙◌, arith}
use Rattle.totals.proofs.Sums.{block-past}
use Rattle.blocks.proofs.Summed.{rows-there}
use Rattle.blocks.proofs.block_count.Goals as goal

pub returns-then-block-states : goal.returns-then-block-states
returns-then-block-states c = block-past c.args.states.now _ (omega arith)

pub returns : goal.returns
returns c = c.busy_rows.ensures ∙ rows-there c.args.states.now _ 64 _ c.min-rows.ensures
