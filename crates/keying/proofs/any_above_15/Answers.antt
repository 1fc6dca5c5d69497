use Rattle.std.proofs.Common.{rules, tests, ◌∙◌, ltb}
use Rattle.std.proofs.lemmas.Iterator.{YieldsList-from_slice}
use Rattle.std.proofs.lemmas.Iterator.Search.{any_from_yields_List}
use Rattle.keying.proofs.Above.{any-above}
use Rattle.keying.proofs.any_above_15.Goals as goal

pub returns : goal.returns
returns c =
    any_from_yields_List (ltb 15) _ _ _ c.any.ensures.ran (YieldsList-from_slice c.args.signals.now cc) (λ x b q k. search (rules, tests))
    ∙ any-above c.args.signals.now
