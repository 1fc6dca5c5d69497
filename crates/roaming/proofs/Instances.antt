-- SCCP at the boundary: each way in which reading ends, that everything fits, that a refusal keeps
-- what was lent, and what C can tell from the number alone.
use Prim.Native.Nat.{ℕ, ◌+◌, ◌*◌, ◌≤◌, ◌<◌}
use mathlib.Core.Path.{◌≡◌, refl, ap}
use mathlib.Core.List.{List, [], ◌∷◌}
use native.Mathlib.Omega.{arith}
use borrow.Author.Tests.{lt-ltb, le-ltb, ltb-true, ltb-false}
use lib.Dec.{ltb}
use lib.ListN.{length}
use Rattle.octets.specs.Octet.{octet}
use Rattle.octets.specs.Answer.{accepted, refused, ◌then◌}
use Rattle.octets.specs.Faults.{Judges, fault}
use Rattle.octets.specs.Filled.{filled, room_for, room_fault}
use Rattle.octets.proofs.Answer.{accepted-same, then-accepted, past-test}
use Rattle.octets.proofs.Faults.{judges-done, judges-if, judges-then}
use Rattle.octets.proofs.Filled.{judges-filled, done-kept, done-accepted}
use Rattle.octets.proofs.Places.{refusal-so, each_append, up-to-then, up-to-done}
use Rattle.layout.proofs.Exactly.{parts-inside}
use Rattle.family.specs.Faults.{family_writer_faults}
use Rattle.family.proofs.Family as family
use Rattle.sccp.specs.declared.Message.{Message}
use Rattle.sccp.specs.Table.{sccp_shape_of, sccp}
use Rattle.sccp.specs.Read.{sccp_read_of}
use Rattle.sccp.specs.Write.{sccp_order_of, sccp_write_in, sccp_write_of}
use Rattle.sccp.specs.Faults.{sccp_faults, sccp_write_faults}
use Rattle.sccp.proofs.Exactly.{read-exactly}
use Rattle.sccp.proofs.Judged.{read-judges, write-judges}
use Rattle.sccp.proofs.Places.{read-places-within, write-placeless}
use Rattle.telling.specs.Telling.{In16Bits}
use Rattle.boundary.specs.Boundary.{given, given_by}
use Rattle.boundary.specs.Refuses.{Refuses}
use Rattle.roaming.specs.Roaming.{SmallSccp, sccp_values_of, sccp_read_gives, sccp_read_gives_faults}
use Rattle.boundary.proofs.Small.{whole-done, roomy}
use Rattle.boundary.proofs.Places.{room-placeless}
use Rattle.boundary.proofs.Numbers.{AtLeastOne, FromOne, message-from-one, shape-from-one}
use Rattle.boundary.proofs.Refused.{by-32-wide}

-- ---- each way in which reading ends
module _ (m parts : List ℕ) where
  pub sccp-refused : (n at : ℕ) → sccp_read_of m ≡ refused n at → given (65536 * n + at) parts ≡ given_by (sccp_read_gives m parts)
  unfolding sccp_read_gives
  sccp-refused n at e = rw e refl

  module _ (x : Message) (e : sccp_read_of m ≡ accepted x) where
    pub sccp-no-room : length parts < 11 → given 851968 parts ≡ given_by (sccp_read_gives m parts)
    unfolding sccp_read_gives
    sccp-no-room h = rw (e, lt-ltb _ _ h) refl

    pub sccp-given : 11 ≤ length parts → given 11 (filled (sccp_values_of x) parts) ≡ given_by (sccp_read_gives m parts)
    unfolding sccp_read_gives
    sccp-given h = rw (e, le-ltb _ _ h) refl

-- ---- everything fits
-- room for eleven has each of the eleven places
pub eleven-places : (n : ℕ) → 11 ≤ n → (0 < n) × (1 < n) × (2 < n) × (3 < n) × (4 < n) × (5 < n) × (6 < n) × (7 < n) × (8 < n) × (9 < n) × (10 < n)
eleven-places n h = (omega arith, omega arith, omega arith, omega arith, omega arith, omega arith, omega arith, omega arith, omega arith, omega arith, omega arith)

-- the parts of a message that reads end within 16 bits
pub sccp-parts-small : (m : List ℕ) (x : Message) → sccp_read_of m ≡ accepted x → SmallSccp x
sccp-parts-small m x e =
    let w = (read-exactly m x).0 e in
    let i = parts-inside m 0 w.shape x.parts w.params w.laid in
    (((i.0.0, omega (arith, i.0.1, w.most)), (i.1.0, omega (arith, i.1.1, w.most)), (i.2.0, omega (arith, i.2.1, w.most)), (i.4.0, omega (arith, i.4.1, w.most))), (i.3.0, omega (arith, i.3.1, w.most)))

-- 11 numbers, where a message reads
pub sccp-read-small : (m parts : List ℕ) (n : ℕ) → (sccp_read_gives m parts).answer ≡ accepted n → n ≤ 65535
unfolding sccp_read_gives
sccp-read-small m parts n e =
    let r = done-accepted parts (sccp_read_of m then λ x. room_for parts (11, sccp_values_of x)) (whole-done e) in
    let t = then-accepted (sccp_read_of m) (λ x. room_for parts (11, sccp_values_of x)) r.1 in
    let u = past-test 13 0 (ltb (length parts) 11) t.2 in
    omega (arith, ap (λ (y : ℕ × List ℕ). y.0) (accepted-same u.1))

-- a written message has 268 octets at the most
pub sccp-write-small : (kind : ℕ) (fixed first second third run buffer : List ℕ) (n : ℕ) → (sccp_write_of kind fixed first second third run buffer).answer ≡ accepted n → n ≤ 268
unfolding sccp_write_of sccp_write_in
sccp-write-small kind fixed first second third run buffer n e =
    let r = roomy buffer (sccp_write_in kind fixed first second third run) e in
    family.written_small sccp (sccp_order_of kind fixed first second third run) n r.0 r.1

-- so its answer goes into 16 bits
pub sccp-write-fits : (kind : ℕ) (fixed first second third run buffer : List ℕ) → In16Bits (sccp_write_of kind fixed first second third run buffer).answer
sccp-write-fits kind fixed first second third run buffer = (λ n q. omega (arith, sccp-write-small kind fixed first second third run buffer n q), λ n at q. omega (arith, write-placeless kind fixed first second third run buffer n at q))

-- a refusal is about octet 268 at the most
pub sccp-read-place : (m parts : List ℕ) (n at : ℕ) → (sccp_read_gives m parts).answer ≡ refused n at → at ≤ 268
unfolding sccp_read_gives
sccp-read-place m parts =
    up-to-done 268 parts (sccp_read_of m then λ x. room_for parts (11, sccp_values_of x))
    (up-to-then 268 (sccp_read_of m) (λ x. room_for parts (11, sccp_values_of x)) (λ n at e. (read-places-within m n at e).1) (λ x e. room-placeless 268 parts (11, sccp_values_of x)))

-- ---- a refusal keeps what was lent
pub sccp-read-keeps : (m parts : List ℕ) (n at : ℕ) → (sccp_read_gives m parts).answer ≡ refused n at → (sccp_read_gives m parts).left ≡ parts
unfolding sccp_read_gives
sccp-read-keeps m parts n at e = done-kept parts (sccp_read_of m then λ x. room_for parts (11, sccp_values_of x)) e

-- ---- refused exactly when, 13 last
pub sccp-read-judges : (m parts : List ℕ) → Judges (sccp_read_gives m parts).answer (sccp_read_gives_faults m parts)
unfolding sccp_read_gives
sccp-read-judges m parts =
    judges-filled parts (sccp_read_of m then λ x. room_for parts (11, sccp_values_of x)) (sccp_read_gives_faults m parts)
    (judges-then (sccp_read_of m) (λ x. room_for parts (11, sccp_values_of x)) (sccp_faults m) _ (read-judges m)
    (λ x e. judges-if (ltb (length parts) 11) (ltb-true (length parts) 11) (λ t h. omega (arith, ltb-false (length parts) 11 t)) (λ t. judges-done _)))

-- ---- what C can tell from the number alone
reader-from-one : (m : List ℕ) → FromOne (sccp_faults m)
reader-from-one m = message-from-one m 0 268 (sccp_shape_of (octet m 0))

pub sccp-read-refuses : (m parts : List ℕ) (r : ℕ) (left : List ℕ) → given r left ≡ given_by (sccp_read_gives m parts) → Refuses 65536 r (sccp_read_gives m parts).answer parts left
sccp-read-refuses m parts r left =
    by-32-wide (sccp_read_gives m parts) r parts left (sccp-read-small m parts)
    (refusal-so AtLeastOne _ _ (sccp-read-judges m parts) (each_append AtLeastOne (sccp_faults m) (fault 13 0 (length parts < 11) ∷ []) (reader-from-one m) (λ _ _. omega arith, tt)))
    (λ n at q. omega (arith, sccp-read-place m parts n at q)) (sccp-read-keeps m parts)

pub sccp-write-refuses : (kind : ℕ) (fixed first second third run buffer : List ℕ) (r : ℕ) (left : List ℕ) → given r left ≡ given_by (sccp_write_of kind fixed first second third run buffer)
    → Refuses 65536 r (sccp_write_of kind fixed first second third run buffer).answer buffer left
unfolding sccp_write_of
sccp-write-refuses kind fixed first second third run buffer r left =
    by-32-wide (sccp_write_of kind fixed first second third run buffer) r buffer left (λ n q. omega (arith, sccp-write-small kind fixed first second third run buffer n q))
    (refusal-so AtLeastOne _ (sccp_write_faults kind fixed first second third run buffer) (write-judges kind fixed first second third run buffer)
    (each_append AtLeastOne (family_writer_faults sccp (sccp_order_of kind fixed first second third run)) (room_fault (sccp_write_in kind fixed first second third run) buffer ∷ []) (λ _ _. omega arith, shape-from-one (sccp_shape_of kind) 268 (sccp_order_of kind fixed first second third run)) (λ _ _. omega arith, tt)))
    (λ n at q. omega (arith, write-placeless kind fixed first second third run buffer n at q))
    (λ n at q. done-kept buffer (sccp_write_in kind fixed first second third run then room_for buffer) q)
