use Rattle.std.proofs.Common.{rules, tests, ◌≡◌, ◌+◌, ◌-◌, take, drop, ◌∙◌, arith}
use Rattle.std.specs.List.{sum_by}
use Rattle.std.proofs.lemmas.Iterator.{YieldsList-from_slice}
use Rattle.std.proofs.lemmas.Iterator.Adapters.{fits_from_length, at_most_from_yields_List}
use Rattle.octets.specs.Octet.{octet}
use Rattle.totals.proofs.Spans.{total-octets}
use Rattle.blocks.proofs.Summed.{summed}
use Rattle.blocks.proofs.blocks_sum.Goals as goal

pub sum-requires-clause-fits : goal.sum-requires-clause-fits
sum-requires-clause-fits c =
    let a = c.args in
    fits_from_length _ _ 64 _ (at_most_from_yields_List (YieldsList-from_slice (take (a.first + a.count - a.first) (drop a.first a.totals.now)) cc) (search rules)) c.map.ensures.closure (omega arith) (λ x r q k. search (rules, tests))

pub returns : goal.returns
returns c =
    let a = c.args in
    let k : c.sum.result ≡ sum_by (λ x. x) (take a.count (drop a.first a.totals.now)) = search rules in
    let s = summed (λ x. x) a.totals.now a.first a.count c.requires.0 in
    (k ∙ s, omega (arith, k, s, total-octets (octet a.totals.now) (λ i. (c.type_inv.totals i).fits) a.first a.count))
