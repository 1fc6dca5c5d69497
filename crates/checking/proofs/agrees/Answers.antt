use mathlib.Core.Path.{sym, ◌∙◌}
use native.Mathlib.Omega.{arith}
use Rattle.std.proofs.Common.{rules, tests}
use Rattle.std.proofs.lemmas.Iterator.{YieldsList-from_slice, YieldsList-from_zip}
use Rattle.std.proofs.lemmas.Iterator.Search.{all_from_yields_List}
use Rattle.checking.proofs.Pairs.{same, pairs-agree}
use Rattle.checking.proofs.agrees.Goals as goal

pub returns : goal.returns
returns c =
    let a = c.args in
    all_from_yields_List same c.all.new.self _ c.all.result c.all.ensures.ran (YieldsList-from_zip (YieldsList-from_slice a.ticks.now cc) (YieldsList-from_slice a.seen.now cc)) (λ x b q k. search (rules, tests))
    ∙ pairs-agree a.ticks.now a.seen.now 0 4096 (sym c.requires) (omega arith)
