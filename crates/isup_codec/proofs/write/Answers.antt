use mathlib.Core.Path.{refl, sym, ◌∙◌}
use native.Mathlib.Omega.{arith}
use borrow.Author.Tests.{lt-ltb, le-ltb}
use Rattle.isup.specs.Write.{write_in, write_of}
use Rattle.isup.proofs.Rewritten.{write-unknown, write-has}
use Rattle.isup_codec.proofs.write.Goals as goal

pub returns-then-circuit-gt-LAST_CIRCUIT : goal.returns-then-circuit-gt-LAST_CIRCUIT
unfolding write_of write_in
returns-then-circuit-gt-LAST_CIRCUIT c = rw (lt-ltb 4095 c.args.circuit (omega arith)) refl

pub returns-then-kind-gt255 : goal.returns-then-kind-gt255
unfolding write_of write_in
returns-then-kind-gt255 c = let a = c.args in rw (le-ltb 4095 a.circuit (omega arith), lt-ltb 255 a.kind (omega arith)) refl

pub returns-in_default : goal.returns-in_default
returns-in_default c = let a = c.args in write-unknown a.circuit a.kind a.fixed.now a.first.now a.second.now a.optional.now a.out.now (omega arith) (omega arith) (sym c.shape_of.ensures ∙ c.in_default.is)

pub returns : goal.returns
returns c = let a = c.args in c.write_parts.ensures ∙ write-has a.circuit a.kind a.fixed.now a.first.now a.second.now a.optional.now a.out.now (omega (arith, c.if-circuit-gt-LAST_CIRCUIT.false)) (omega (arith, c.if-kind-gt255.false)) _ (sym c.shape_of.ensures ∙ c.in-Some.is)
