-- SCCP's reading and writing again at the boundary: everything fits, and what C
-- can tell from the number alone.
use Prim.Native.Nat.{ℕ, ◌≤◌}
use mathlib.Core.Path.{◌≡◌}
use mathlib.Core.List.{List, [], ◌∷◌}
use native.Mathlib.Omega.{arith}
use Rattle.octets.specs.Octet.{octet}
use Rattle.octets.specs.Answer.{accepted, ◌then◌}
use Rattle.octets.specs.Faults.{fault}
use Rattle.octets.specs.Filled.{room_for, room_fault}
use Rattle.octets.proofs.Answer.{then-accepted}
use Rattle.octets.proofs.Filled.{done-kept}
use Rattle.octets.proofs.Places.{refusal-so, each_append}
use Rattle.layout.specs.Container.{kind_at}
use Rattle.family.specs.Family.{read_in, again_in}
use Rattle.family.specs.Faults.{again_faults, CannotHold}
use Rattle.family.proofs.Family as family
use Rattle.sccp.specs.Table.{sccp_shape_of, sccp}
use Rattle.sccp.specs.Write.{sccp_compact_in, sccp_compact_of}
use Rattle.sccp.specs.Faults.{sccp_faults, sccp_compact_faults}
use Rattle.sccp.proofs.Judged.{compact-judges}
use Rattle.sccp.proofs.Places.{compact-places-within}
use Rattle.telling.specs.Telling.{In16Bits}
use Rattle.boundary.specs.Boundary.{given, given_by}
use Rattle.boundary.specs.Refuses.{Refuses}
use Rattle.boundary.proofs.Small.{roomy}
use Rattle.boundary.proofs.Numbers.{AtLeastOne, message-from-one}
use Rattle.boundary.proofs.Refused.{by-32-wide}

-- a message that is written again has 268 octets at the most
pub sccp-compact-small : (m buffer : List ℕ) (n : ℕ) → (sccp_compact_of m buffer).answer ≡ accepted n → n ≤ 268
unfolding sccp_compact_of sccp_compact_in
sccp-compact-small m buffer n e =
    let r = roomy buffer (sccp_compact_in m) e in
    let t = then-accepted (read_in sccp m) (again_in m 0 268 (sccp_shape_of (kind_at m 0)) []) r.1 in
    family.shape-small sccp (sccp_shape_of (kind_at m 0)) _ n r.0 t.2

-- so its answer goes into 16 bits
pub sccp-compact-fits : (m buffer : List ℕ) → In16Bits (sccp_compact_of m buffer).answer
sccp-compact-fits m buffer = (λ n q. omega (arith, sccp-compact-small m buffer n q), λ n at q. omega (arith, compact-places-within m buffer n at q))

pub sccp-compact-refuses : (m buffer : List ℕ) (r : ℕ) (left : List ℕ) → given r left ≡ given_by (sccp_compact_of m buffer) → Refuses 65536 r (sccp_compact_of m buffer).answer buffer left
unfolding sccp_compact_of sccp_compact_in
sccp-compact-refuses m buffer r left =
    by-32-wide (sccp_compact_of m buffer) r buffer left (λ n q. omega (arith, sccp-compact-small m buffer n q))
    (refusal-so AtLeastOne _ (sccp_compact_faults m buffer) (compact-judges m buffer)
    (each_append AtLeastOne (again_faults sccp m) (room_fault (sccp_compact_in m) buffer ∷ [])
    (each_append AtLeastOne (sccp_faults m) (fault 12 0 (CannotHold m 0 268 (sccp_shape_of (octet m 0))) ∷ []) (message-from-one m 0 268 (sccp_shape_of (octet m 0))) (λ _ _. omega arith, tt)) (λ _ _. omega arith, tt)))
    (λ n at q. omega (arith, compact-places-within m buffer n at q))
    (λ n at q. done-kept buffer (sccp_compact_in m then room_for buffer) q)
