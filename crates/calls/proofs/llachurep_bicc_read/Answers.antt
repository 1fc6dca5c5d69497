use Rattle.octets.specs.Told.{told}
use Rattle.boundary.proofs.Gives.{valued, refusal-given}
use Rattle.calls.proofs.Instances.{call-refused, call-no-room, call-given, call-parts-small}
use Rattle.bicc.proofs.Places.{read-places-within}
use native.Mathlib.Omega.{arith}
use mathlib.Core.List.{List}
use Rattle.boundary.specs.Boundary.{given}
use mathlib.Core.Path.{sym, ◌∙◌, ap}
use Prim.Native.Nat.{ℕ}
use Rattle.calls.proofs.llachurep_bicc_read.Goals as goal

pub returns-then-parts-lt10 : goal.returns-then-parts-lt10
returns-then-parts-lt10 c = valued c.refused-then-parts-lt10.ensures (call-no-room c.args.message.now c.args.parts.now _ (sym c.read.ensures ∙ ap told c.in-Ok.is) c.if-parts-lt10.true)

pub put_call_values-requires : goal.put_call_values-requires
put_call_values-requires c = (call-parts-small c.args.message.now _ (sym c.read.ensures ∙ ap told c.in-Ok.is), c.if-parts-lt10.false)

pub returns-in-Err : goal.returns-in-Err
returns-in-Err c = refusal-given _ _ c.refused.ensures (omega (arith, (read-places-within c.args.message.now _ _ (sym c.read.ensures ∙ ap told c.in-Err.is)).1)) (call-refused c.args.message.now c.args.parts.now _ _ (sym c.read.ensures ∙ ap told c.in-Err.is))

pub returns-else-parts-lt10 : goal.returns-else-parts-lt10
returns-else-parts-lt10 c = ap (λ (l : List ℕ). given 10 l) c.put_call_values.ensures ∙ call-given c.args.message.now c.args.parts.now _ (sym c.read.ensures ∙ ap told c.in-Ok.is) c.if-parts-lt10.false
