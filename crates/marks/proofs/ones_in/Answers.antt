use Rattle.std.proofs.Common.{rules, tests, ◌≡◌, take, ◌∙◌, arith}
use Rattle.std.specs.List.{sum_by}
use Rattle.std.proofs.lemmas.Iterator.{YieldsList-from_slice}
use Rattle.std.proofs.lemmas.Iterator.Adapters.{fits_from_length, at_most_from_yields_List}
use lib.Count.{ones, ones-le}
use Rattle.marks.proofs.Counted.{whole-ones}
use Rattle.marks.proofs.ones_in.Goals as goal

pub sum-requires-clause-fits : goal.sum-requires-clause-fits
sum-requires-clause-fits c =
    let a = c.args in
    fits_from_length _ _ 31 _ (at_most_from_yields_List (YieldsList-from_slice (take a.count a.octets.now) cc) (search rules)) c.map.ensures.closure (omega arith) (λ x r q k. search (rules, tests, ones-le 8))

pub returns : goal.returns
returns c =
    let a = c.args in
    let k : c.sum.result ≡ sum_by ones (take a.count a.octets.now) = search rules in
    k ∙ whole-ones a.octets.now a.count c.requires.0 (λ i. (c.type_inv.octets i).fits)
