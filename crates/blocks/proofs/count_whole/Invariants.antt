use Rattle.std.proofs.Common.{◌≡◌}
use Rattle.totals.specs.Blocks.{blocks_counted}
use Rattle.blocks.proofs.count_whole.Given as goal

abbrev pub invariant-loop-block : goal.invariant-loop-block
invariant-loop-block l =
    blocks_counted l.states l.block l.last l.totals ≡ blocks_counted l.states l.first l.last l.initial.totals
