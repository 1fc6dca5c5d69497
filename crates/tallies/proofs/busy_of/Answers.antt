use mathlib.Core.Path.{sym, ◌∙◌}
use native.Mathlib.Omega.{arith}
use borrow.Author.Tests.{tests}
use Rattle.std.proofs.Common.{rules}
use Rattle.std.specs.List.{zip}
use Rattle.std.proofs.lemmas.Iterator.{YieldsList-from_slice, YieldsList-from_zip, YieldsList-from_map}
use Rattle.std.proofs.lemmas.Iterator.Adapters.{fits_from_length, at_most_from_yields_List}
use Rattle.std.proofs.lemmas.Iterator.Consumers.{sum_from_yields_List}
use Rattle.std.proofs.lemmas.List.Sums.{sum-map}
use Rattle.std.proofs.lemmas.Slice.Zip.{length-zip}
use Rattle.tallies.proofs.Reported.{busy-pair, busy-summed, busy-most}
use Rattle.tallies.proofs.busy_of.Goals as goal

pub sum-requires-clause-fits : goal.sum-requires-clause-fits
sum-requires-clause-fits c =
    let a = c.args in
    fits_from_length _ _ 4096 _ (at_most_from_yields_List (YieldsList-from_zip (YieldsList-from_slice a.owners.now cc) (YieldsList-from_slice a.states.now cc)) (omega (arith, length-zip a.owners.now a.states.now, c.requires.0))) c.map.ensures.closure (omega arith) (λ x r q k. search (rules, tests))

pub returns : goal.returns
returns c =
    let a = c.args in
    let p = busy-pair a.sender in
    let s = busy-summed a.owners.now a.states.now a.sender 0 4096 (sym c.requires.0) (sym c.requires.1) in
    let e = sum_from_yields_List c.map.result _ c.sum.ensures.ran (YieldsList-from_map _ p (YieldsList-from_zip (YieldsList-from_slice a.owners.now cc) (YieldsList-from_slice a.states.now cc)) c.map.ensures.closure (λ x r q k. search rules)) ∙ sum-map p (zip a.owners.now a.states.now) ∙ s in
    (e, omega (arith, e, busy-most a.owners.now a.states.now a.sender 0 4096))
