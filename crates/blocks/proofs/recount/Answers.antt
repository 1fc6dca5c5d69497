use Rattle.totals.specs.Blocks.{recounted}
use Rattle.blocks.proofs.recount.Goals as goal

pub returns-then-last-states : goal.returns-then-last-states
unfolding recounted
returns-then-last-states c = c.count_whole.ensures

pub returns : goal.returns
unfolding recounted
returns c = c.count_any.ensures
