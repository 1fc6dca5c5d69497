-- BICC at the boundary: each way in which reading ends, that everything fits, that a refusal keeps
-- what was lent, and what C can tell from the number alone.
use Prim.Native.Nat.{ℕ, ◌+◌, ◌*◌, ◌≤◌, ◌<◌}
use mathlib.Core.Path.{◌≡◌, refl, ap}
use mathlib.Core.List.{List, [], ◌∷◌}
use native.Mathlib.Omega.{arith}
use borrow.Author.Tests.{lt-ltb, le-ltb, ltb-true, ltb-false}
use lib.Dec.{ltb}
use lib.ListN.{length}
use Rattle.octets.specs.Octet.{octet}
use Rattle.octets.specs.Answer.{accepted, refused, ◌then◌}
use Rattle.octets.specs.Faults.{Judges, fault}
use Rattle.octets.specs.Filled.{filled, room_for, room_fault}
use Rattle.octets.proofs.Answer.{accepted-same, then-accepted, past-test}
use Rattle.octets.proofs.Faults.{judges-done, judges-if, judges-then}
use Rattle.octets.proofs.Filled.{judges-filled, done-kept, done-accepted}
use Rattle.octets.proofs.Places.{refusal-so, each_append, up-to-then, up-to-done}
use Rattle.layout.proofs.Exactly.{parts-inside}
use Rattle.family.specs.Faults.{family_writer_faults}
use Rattle.family.proofs.Family as family
use Rattle.bicc.specs.declared.Message.{Message}
use Rattle.bicc.specs.Table.{call_shape_of, bicc}
use Rattle.bicc.specs.Read.{call_read_of}
use Rattle.bicc.specs.Write.{call_order_of, call_write_in, call_write_of}
use Rattle.bicc.specs.Faults.{call_faults, call_write_faults}
use Rattle.bicc.proofs.Exactly.{read-exactly}
use Rattle.bicc.proofs.Judged.{read-judges, write-judges}
use Rattle.bicc.proofs.Places.{read-places-within, write-placeless}
use Rattle.telling.specs.Telling.{In16Bits}
use Rattle.boundary.specs.Boundary.{given, given_by, SmallParts}
use Rattle.boundary.specs.Refuses.{Refuses}
use Rattle.calls.specs.Calls.{call_values_of, call_read_gives, call_read_gives_faults}
use Rattle.boundary.proofs.Small.{whole-done, roomy}
use Rattle.boundary.proofs.Places.{room-placeless}
use Rattle.boundary.proofs.Numbers.{AtLeastOne, FromOne, message-from-one, shape-from-one}
use Rattle.boundary.proofs.Refused.{by-32-wide}

-- ---- each way in which reading ends
module _ (m parts : List ℕ) where
  pub call-refused : (n at : ℕ) → call_read_of m ≡ refused n at → given (65536 * n + at) parts ≡ given_by (call_read_gives m parts)
  unfolding call_read_gives
  call-refused n at e = rw e refl

  module _ (x : Message) (e : call_read_of m ≡ accepted x) where
    pub call-no-room : length parts < 10 → given 851968 parts ≡ given_by (call_read_gives m parts)
    unfolding call_read_gives
    call-no-room h = rw (e, lt-ltb _ _ h) refl

    pub call-given : 10 ≤ length parts → given 10 (filled (call_values_of x) parts) ≡ given_by (call_read_gives m parts)
    unfolding call_read_gives
    call-given h = rw (e, le-ltb _ _ h) refl

-- ---- everything fits
-- the parts of a message that reads end within 16 bits
pub call-parts-small : (m : List ℕ) (x : Message) → call_read_of m ≡ accepted x → SmallParts x.parts
call-parts-small m x e =
    let w = (read-exactly m x).0 e in
    let i = parts-inside m 4 w.shape x.parts w.params w.laid in
    ((i.0.0, omega (arith, i.0.1, w.most)), (i.1.0, omega (arith, i.1.1, w.most)), (i.2.0, omega (arith, i.2.1, w.most)), (i.4.0, omega (arith, i.4.1, w.most)))

-- 10 numbers, where a message reads
pub call-read-small : (m parts : List ℕ) (n : ℕ) → (call_read_gives m parts).answer ≡ accepted n → n ≤ 65535
unfolding call_read_gives
call-read-small m parts n e =
    let r = done-accepted parts (call_read_of m then λ x. room_for parts (10, call_values_of x)) (whole-done e) in
    let t = then-accepted (call_read_of m) (λ x. room_for parts (10, call_values_of x)) r.1 in
    let u = past-test 13 0 (ltb (length parts) 10) t.2 in
    omega (arith, ap (λ (y : ℕ × List ℕ). y.0) (accepted-same u.1))

-- a written message has 270 octets at the most
pub call-write-small : (code kind : ℕ) (fixed first second run buffer : List ℕ) (n : ℕ) → (call_write_of code kind fixed first second run buffer).answer ≡ accepted n → n ≤ 270
unfolding call_write_of call_write_in
call-write-small code kind fixed first second run buffer n e =
    let r = roomy buffer (call_write_in code kind fixed first second run) e in
    family.written_small bicc (call_order_of code kind fixed first second run) n r.0 r.1

-- so its answer goes into 16 bits
pub call-write-fits : (code kind : ℕ) (fixed first second run buffer : List ℕ) → In16Bits (call_write_of code kind fixed first second run buffer).answer
call-write-fits code kind fixed first second run buffer = (λ n q. omega (arith, call-write-small code kind fixed first second run buffer n q), λ n at q. omega (arith, write-placeless code kind fixed first second run buffer n at q))

-- a refusal is about octet 270 at the most
pub call-read-place : (m parts : List ℕ) (n at : ℕ) → (call_read_gives m parts).answer ≡ refused n at → at ≤ 270
unfolding call_read_gives
call-read-place m parts =
    up-to-done 270 parts (call_read_of m then λ x. room_for parts (10, call_values_of x))
    (up-to-then 270 (call_read_of m) (λ x. room_for parts (10, call_values_of x)) (λ n at e. (read-places-within m n at e).1) (λ x e. room-placeless 270 parts (10, call_values_of x)))

-- ---- a refusal keeps what was lent
pub call-read-keeps : (m parts : List ℕ) (n at : ℕ) → (call_read_gives m parts).answer ≡ refused n at → (call_read_gives m parts).left ≡ parts
unfolding call_read_gives
call-read-keeps m parts n at e = done-kept parts (call_read_of m then λ x. room_for parts (10, call_values_of x)) e

-- ---- refused exactly when, 13 last
pub call-read-judges : (m parts : List ℕ) → Judges (call_read_gives m parts).answer (call_read_gives_faults m parts)
unfolding call_read_gives
call-read-judges m parts =
    judges-filled parts (call_read_of m then λ x. room_for parts (10, call_values_of x)) (call_read_gives_faults m parts)
    (judges-then (call_read_of m) (λ x. room_for parts (10, call_values_of x)) (call_faults m) _ (read-judges m)
    (λ x e. judges-if (ltb (length parts) 10) (ltb-true (length parts) 10) (λ t h. omega (arith, ltb-false (length parts) 10 t)) (λ t. judges-done _)))

-- ---- what C can tell from the number alone
reader-from-one : (m : List ℕ) → FromOne (call_faults m)
reader-from-one m = message-from-one m 4 270 (call_shape_of (octet m 4))

pub call-read-refuses : (m parts : List ℕ) (r : ℕ) (left : List ℕ) → given r left ≡ given_by (call_read_gives m parts) → Refuses 65536 r (call_read_gives m parts).answer parts left
call-read-refuses m parts r left =
    by-32-wide (call_read_gives m parts) r parts left (call-read-small m parts)
    (refusal-so AtLeastOne _ _ (call-read-judges m parts) (each_append AtLeastOne (call_faults m) (fault 13 0 (length parts < 10) ∷ []) (reader-from-one m) (λ _ _. omega arith, tt)))
    (λ n at q. omega (arith, call-read-place m parts n at q)) (call-read-keeps m parts)

pub call-write-refuses : (code kind : ℕ) (fixed first second run buffer : List ℕ) (r : ℕ) (left : List ℕ) → given r left ≡ given_by (call_write_of code kind fixed first second run buffer)
    → Refuses 65536 r (call_write_of code kind fixed first second run buffer).answer buffer left
unfolding call_write_of
call-write-refuses code kind fixed first second run buffer r left =
    by-32-wide (call_write_of code kind fixed first second run buffer) r buffer left (λ n q. omega (arith, call-write-small code kind fixed first second run buffer n q))
    (refusal-so AtLeastOne _ (call_write_faults code kind fixed first second run buffer) (write-judges code kind fixed first second run buffer)
    (each_append AtLeastOne (family_writer_faults bicc (call_order_of code kind fixed first second run)) (room_fault (call_write_in code kind fixed first second run) buffer ∷ []) (λ _ _. omega arith, shape-from-one (call_shape_of kind) 270 (call_order_of code kind fixed first second run)) (λ _ _. omega arith, tt)))
    (λ n at q. omega (arith, write-placeless code kind fixed first second run buffer n at q))
    (λ n at q. done-kept buffer (call_write_in code kind fixed first second run then room_for buffer) q)
