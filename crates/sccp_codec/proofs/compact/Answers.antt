use mathlib.Core.Path.{◌∙◌}
use Rattle.sccp.proofs.Given.{compact-given}
use Rattle.sccp_codec.proofs.compact.Goals as goal

pub returns : goal.returns
returns c = let a = c.args in
    c.rewrite.ensures
    ∙ compact-given a.message.now a.out.now _ _ c.kind_at.ensures c.shape_of-row.ensures
