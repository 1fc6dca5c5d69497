use Rattle.octets.specs.Told.{told}
use Rattle.boundary.proofs.Gives.{valued, refusal-given}
use Rattle.roaming.proofs.Instances.{sccp-refused, sccp-no-room, sccp-given, sccp-parts-small}
use Rattle.sccp.proofs.Places.{read-places-within}
use native.Mathlib.Omega.{arith}
use mathlib.Core.List.{List}
use Rattle.boundary.specs.Boundary.{given}
use mathlib.Core.Path.{sym, ◌∙◌, ap}
use Prim.Native.Nat.{ℕ}
use Rattle.roaming.proofs.llachurep_sccp_read.Goals as goal

pub returns-then-parts-lt11 : goal.returns-then-parts-lt11
returns-then-parts-lt11 c = valued c.refused-then-parts-lt11.ensures (sccp-no-room c.args.message.now c.args.parts.now _ (sym c.read.ensures ∙ ap told c.in-Ok.is) c.if-parts-lt11.true)

pub put_sccp_values-requires : goal.put_sccp_values-requires
put_sccp_values-requires c = (sccp-parts-small c.args.message.now _ (sym c.read.ensures ∙ ap told c.in-Ok.is), c.if-parts-lt11.false)

pub returns-in-Err : goal.returns-in-Err
returns-in-Err c = refusal-given _ _ c.refused.ensures (omega (arith, (read-places-within c.args.message.now _ _ (sym c.read.ensures ∙ ap told c.in-Err.is)).1)) (sccp-refused c.args.message.now c.args.parts.now _ _ (sym c.read.ensures ∙ ap told c.in-Err.is))

pub returns-else-parts-lt11 : goal.returns-else-parts-lt11
returns-else-parts-lt11 c = ap (λ (l : List ℕ). given 11 l) c.put_sccp_values.ensures ∙ sccp-given c.args.message.now c.args.parts.now _ (sym c.read.ensures ∙ ap told c.in-Ok.is) c.if-parts-lt11.false
