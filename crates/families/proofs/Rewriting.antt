-- ISUP's reading and writing again at the boundary: everything fits, and what C
-- can tell from the number alone.
use Prim.Native.Nat.{ℕ, ◌≤◌}
use mathlib.Core.Path.{◌≡◌}
use mathlib.Core.List.{List, [], ◌∷◌}
use native.Mathlib.Omega.{arith}
use Rattle.octets.specs.Octet.{octet}
use Rattle.octets.specs.Answer.{accepted, ◌then◌}
use Rattle.octets.specs.Faults.{fault}
use Rattle.octets.specs.Filled.{room_for, room_fault}
use Rattle.octets.proofs.Answer.{then-accepted}
use Rattle.octets.proofs.Filled.{done-kept}
use Rattle.octets.proofs.Places.{refusal-so, each_append}
use Rattle.layout.specs.Container.{kind_at}
use Rattle.family.specs.Family.{read_in, again_in}
use Rattle.family.specs.Faults.{again_faults, CannotHold}
use Rattle.family.proofs.Family as family
use Rattle.isup.specs.Table.{shape_of, isup}
use Rattle.isup.specs.Read.{circuit_of_lem}
use Rattle.isup.specs.Write.{head_of, compact_in, compact_of}
use Rattle.isup.specs.Faults.{reader_faults}
use Rattle.isup.specs.WriteFaults.{compact_faults}
use Rattle.isup.proofs.CompactAgain.{compact-judges}
use Rattle.isup.proofs.Places.{compact-places-within}
use Rattle.telling.specs.Telling.{In16Bits}
use Rattle.boundary.specs.Boundary.{given, given_by}
use Rattle.boundary.specs.Refuses.{Refuses}
use Rattle.boundary.proofs.Small.{roomy}
use Rattle.boundary.proofs.Numbers.{AtLeastOne, FromOne, message-from-one}
use Rattle.boundary.proofs.Refused.{by-32-wide}

-- a message that is written again has 268 octets at the most
pub compact-small : (m buffer : List ℕ) (n : ℕ) → (compact_of m buffer).answer ≡ accepted n → n ≤ 268
unfolding compact_of compact_in
compact-small m buffer n e =
    let r = roomy buffer (compact_in m) e in
    let t = then-accepted (read_in isup m) (again_in m 2 268 (shape_of (kind_at m 2)) (head_of (circuit_of_lem m))) r.1 in
    family.shape-small isup (shape_of (kind_at m 2)) _ n r.0 t.2

-- so its answer goes into 16 bits
pub compact-fits : (m buffer : List ℕ) → In16Bits (compact_of m buffer).answer
compact-fits m buffer = (λ n q. omega (arith, compact-small m buffer n q), λ n at q. omega (arith, compact-places-within m buffer n at q))

compact-from-one : (m buffer : List ℕ) → FromOne (compact_faults m buffer)
unfolding compact_in
compact-from-one m buffer =
    each_append AtLeastOne (again_faults isup m) (room_fault (compact_in m) buffer ∷ [])
    (each_append AtLeastOne (reader_faults m) (fault 12 0 (CannotHold m 2 268 (shape_of (octet m 2))) ∷ []) (message-from-one m 2 268 (shape_of (octet m 2))) (λ _ _. omega arith, tt)) (λ _ _. omega arith, tt)

pub compact-refuses : (m buffer : List ℕ) (r : ℕ) (left : List ℕ) → given r left ≡ given_by (compact_of m buffer) → Refuses 65536 r (compact_of m buffer).answer buffer left
unfolding compact_of compact_in
compact-refuses m buffer r left =
    by-32-wide (compact_of m buffer) r buffer left (λ n q. omega (arith, compact-small m buffer n q))
    (refusal-so AtLeastOne _ (compact_faults m buffer) (compact-judges m buffer) (compact-from-one m buffer))
    (λ n at q. omega (arith, compact-places-within m buffer n at q))
    (λ n at q. done-kept buffer (compact_in m then room_for buffer) q)
