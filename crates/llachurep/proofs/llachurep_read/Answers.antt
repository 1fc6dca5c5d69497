use Rattle.octets.specs.Told.{told}
use Rattle.boundary.proofs.Gives.{valued, refusal-given}
use Rattle.llachurep.proofs.Gives.{read-refused, read-no-room, read-given}
use Rattle.isup.proofs.Places.{read-places-within}
use native.Mathlib.Omega.{arith}
use mathlib.Core.List.{List}
use Rattle.llachurep.proofs.Small.{read_small}
use Rattle.boundary.specs.Boundary.{given}
use mathlib.Core.Path.{sym, ◌∙◌, ap}
use Prim.Native.Nat.{ℕ}
use Rattle.llachurep.proofs.llachurep_read.Goals as goal

pub returns-then-parts-lt10 : goal.returns-then-parts-lt10
returns-then-parts-lt10 c = valued c.refused-then-parts-lt10.ensures (read-no-room c.args.message.now c.args.parts.now _ (sym c.read.ensures ∙ ap told c.in-Ok.is) c.if-parts-lt10.true)

pub put_values-requires : goal.put_values-requires
put_values-requires c = (read_small c.args.message.now _ (sym c.read.ensures ∙ ap told c.in-Ok.is), c.if-parts-lt10.false)

pub returns-in-Err : goal.returns-in-Err
returns-in-Err c = refusal-given _ _ c.refused.ensures (omega (arith, (read-places-within c.args.message.now _ _ (sym c.read.ensures ∙ ap told c.in-Err.is)).1)) (read-refused c.args.message.now c.args.parts.now _ _ (sym c.read.ensures ∙ ap told c.in-Err.is))

pub returns-else-parts-lt10 : goal.returns-else-parts-lt10
returns-else-parts-lt10 c = ap (λ (l : List ℕ). given 10 l) c.put_values.ensures ∙ read-given c.args.message.now c.args.parts.now _ (sym c.read.ensures ∙ ap told c.in-Ok.is) c.if-parts-lt10.false
