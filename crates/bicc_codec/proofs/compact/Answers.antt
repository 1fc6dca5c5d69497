use mathlib.Core.Path.{◌∙◌}
use Rattle.bicc.proofs.Given.{compact-given}
use Rattle.bicc_codec.proofs.compact.Goals as goal

pub returns : goal.returns
returns c = let a = c.args in
    c.rewrite.ensures
    ∙ compact-given a.message.now _ a.out.now _ _ c.kind_at.ensures c.shape_of-row.ensures c.header-head.ensures
