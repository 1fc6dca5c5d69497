use Prim.Native.Nat.{ℕ}
use mathlib.Core.Path.{◌≡◌, ◌∙◌}
use mathlib.Core.Bool.{Bool, not}
use native.Mathlib.Omega.{arith}
use borrow.Author.Tests.{tests}
use lib.Dec.{eqb}
use lib.ListN.{take, drop, length-drop}
use lib.Seq.{take_all}
use Rattle.std.proofs.Common.{rules}
use Rattle.std.proofs.lemmas.Iterator.{YieldsList-from_slice, YieldsList-from_take}
use Rattle.std.proofs.lemmas.Iterator.Consumers.{count_from_yields_List}
use Rattle.std.proofs.lemmas.Iterator.Search.{YieldsList-from_take_while}
use Rattle.std.proofs.lemmas.List.Folds.{length-prefix_len}
use Rattle.laying.proofs.Rows.{row-counted}
use Rattle.laying.proofs.in_row.Goals as goal

pub returns : goal.returns
returns c =
    let a = c.args in
    let t = a.ticks.now in
    let s : c.iter.result.rest.now ≡ drop a.c t = c.iter.ensures.rest ∙ take_all _ (drop a.c t) (omega (arith, length-drop a.c t)) in
    let p : ℕ → Bool = λ x. not (eqb x 0) in
    count_from_yields_List c.take_while.result _ c.count.ensures.ran (YieldsList-from_take_while _ p (YieldsList-from_take 32 (YieldsList-from_slice (drop a.c t) cc) cc) c.take_while.ensures.closure c.take_while.ensures.done (λ x b q k. search (rules, tests)))
    ∙ length-prefix_len p (take 32 (drop a.c t))
    ∙ row-counted t a.c 32
