-- BICC's reading and writing again at the boundary: everything fits, and what C
-- can tell from the number alone.
use Prim.Native.Nat.{ℕ, ◌≤◌}
use mathlib.Core.Path.{◌≡◌}
use mathlib.Core.List.{List, [], ◌∷◌}
use native.Mathlib.Omega.{arith}
use Rattle.octets.specs.Octet.{octet, octets}
use Rattle.octets.specs.Answer.{accepted, ◌then◌}
use Rattle.octets.specs.Faults.{fault}
use Rattle.octets.specs.Filled.{room_for, room_fault}
use Rattle.octets.proofs.Answer.{then-accepted}
use Rattle.octets.proofs.Filled.{done-kept}
use Rattle.octets.proofs.Places.{refusal-so, each_append}
use Rattle.layout.specs.Container.{kind_at}
use Rattle.family.specs.Family.{read_in, again_in}
use Rattle.family.specs.Faults.{again_faults, CannotHold}
use Rattle.family.proofs.Family as family
use Rattle.bicc.specs.Table.{call_shape_of, bicc}
use Rattle.bicc.specs.Write.{call_compact_in, call_compact_of}
use Rattle.bicc.specs.Faults.{call_faults, call_compact_faults}
use Rattle.bicc.proofs.Judged.{compact-judges}
use Rattle.bicc.proofs.Places.{compact-places-within}
use Rattle.telling.specs.Telling.{In16Bits}
use Rattle.boundary.specs.Boundary.{given, given_by}
use Rattle.boundary.specs.Refuses.{Refuses}
use Rattle.boundary.proofs.Small.{roomy}
use Rattle.boundary.proofs.Numbers.{AtLeastOne, message-from-one}
use Rattle.boundary.proofs.Refused.{by-32-wide}

-- a message that is written again has 270 octets at the most
pub call-compact-small : (m buffer : List ℕ) (n : ℕ) → (call_compact_of m buffer).answer ≡ accepted n → n ≤ 270
unfolding call_compact_of call_compact_in
call-compact-small m buffer n e =
    let r = roomy buffer (call_compact_in m) e in
    let t = then-accepted (read_in bicc m) (again_in m 4 270 (call_shape_of (kind_at m 4)) (octets m 0 4)) r.1 in
    family.shape-small bicc (call_shape_of (kind_at m 4)) _ n r.0 t.2

-- so its answer goes into 16 bits
pub call-compact-fits : (m buffer : List ℕ) → In16Bits (call_compact_of m buffer).answer
call-compact-fits m buffer = (λ n q. omega (arith, call-compact-small m buffer n q), λ n at q. omega (arith, compact-places-within m buffer n at q))

pub call-compact-refuses : (m buffer : List ℕ) (r : ℕ) (left : List ℕ) → given r left ≡ given_by (call_compact_of m buffer) → Refuses 65536 r (call_compact_of m buffer).answer buffer left
unfolding call_compact_of call_compact_in
call-compact-refuses m buffer r left =
    by-32-wide (call_compact_of m buffer) r buffer left (λ n q. omega (arith, call-compact-small m buffer n q))
    (refusal-so AtLeastOne _ (call_compact_faults m buffer) (compact-judges m buffer)
    (each_append AtLeastOne (again_faults bicc m) (room_fault (call_compact_in m) buffer ∷ [])
    (each_append AtLeastOne (call_faults m) (fault 12 0 (CannotHold m 4 270 (call_shape_of (octet m 4))) ∷ []) (message-from-one m 4 270 (call_shape_of (octet m 4))) (λ _ _. omega arith, tt)) (λ _ _. omega arith, tt)))
    (λ n at q. omega (arith, compact-places-within m buffer n at q))
    (λ n at q. done-kept buffer (call_compact_in m then room_for buffer) q)
