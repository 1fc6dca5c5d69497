use mathlib.Core.Path.{◌∙◌}
use native.Mathlib.Omega.{arith}
use Rattle.isup.proofs.Rewritten.{compact-given}
use Rattle.isup_codec.proofs.compact.Goals as goal

pub returns : goal.returns
returns c = let a = c.args in
    c.rewrite.ensures
    ∙ compact-given a.message.now (λ i. omega (arith, c.type_inv.message i)) _ _ _ _ a.out.now c.kind_at.ensures c.kind_at-2.ensures c.kind_at-kind.ensures c.shape_of.ensures
