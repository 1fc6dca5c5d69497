use Rattle.std.proofs.Common.{rules, tests, ◌≡◌, ◌+◌, ◌-◌, ◌%◌, take, drop, ◌∙◌, arith}
use Rattle.std.specs.List.{sum_by}
use Rattle.std.proofs.lemmas.Iterator.{YieldsList-from_slice}
use Rattle.std.proofs.lemmas.Iterator.Adapters.{fits_from_length, at_most_from_yields_List}
use Rattle.blocks.proofs.Summed.{summed}
use Rattle.blocks.proofs.busy_rows.Goals as goal

pub sum-requires-clause-fits : goal.sum-requires-clause-fits
sum-requires-clause-fits c =
    let a = c.args in
    fits_from_length _ _ 255 _ (at_most_from_yields_List (YieldsList-from_slice (take (a.first + a.count - a.first) (drop a.first a.states.now)) cc) (search rules)) c.map.ensures.closure (omega arith) (λ x r q k. search (rules, tests))

pub returns : goal.returns
returns c =
    let a = c.args in
    let k : c.sum.result ≡ sum_by (λ x. x % 2) (take a.count (drop a.first a.states.now)) = search rules in
    k ∙ summed (λ x. x % 2) a.states.now a.first a.count c.requires.0
