use mathlib.Core.Path.{sym, ◌∙◌}
use native.Mathlib.Omega.{arith}
use Rattle.sccp.proofs.Given.{write-high, write-unknown, write-has}
use Rattle.sccp_codec.proofs.write.Goals as goal

pub returns-then-kind-gt255 : goal.returns-then-kind-gt255
returns-then-kind-gt255 c = let a = c.args in write-high a.kind a.fixed.now a.first.now a.second.now a.third.now a.optional.now a.out.now c.if-kind-gt255.true

pub returns-in_default : goal.returns-in_default
returns-in_default c = let a = c.args in write-unknown a.kind a.fixed.now a.first.now a.second.now a.third.now a.optional.now a.out.now (omega (arith, c.if-kind-gt255.false)) (sym c.shape_of.ensures ∙ c.in_default.is)

pub returns : goal.returns
returns c = let a = c.args in c.write_parts.ensures ∙ write-has a.kind a.fixed.now a.first.now a.second.now a.third.now a.optional.now a.out.now (omega (arith, c.if-kind-gt255.false)) _ (sym c.shape_of.ensures ∙ c.in-Some.is)
