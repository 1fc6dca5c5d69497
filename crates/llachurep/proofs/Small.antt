-- Everything that goes into an answer is small enough for it.
use Prim.Native.Nat.{ℕ, ◌≤◌}
use mathlib.Core.Path.{◌≡◌, ap}
use mathlib.Core.List.{List, [], ◌∷◌}
use mathlib.Core.Logic.{⊎_elim}
use native.Mathlib.Omega.{arith}
use lib.Dec.{ltb}
use lib.ListN.{length}
use Rattle.octets.specs.Answer.{accepted, ◌then◌}
use Rattle.octets.specs.Filled.{room_for}
use Rattle.octets.proofs.Answer.{accepted-same, then-accepted, past-test}
use Rattle.family.proofs.Family as family
use Rattle.isup.specs.declared.Message.{Message}
use Rattle.isup.specs.Table.{isup}
use Rattle.isup.specs.Read.{read_of}
use Rattle.isup.specs.Write.{order_of, write_in, write_of}
use Rattle.isup.proofs.Exactly.{read-exactly}
use Rattle.isup.proofs.Rewritten.{read-inside}
use Rattle.finding.specs.Find.{locate_of}
use Rattle.finding.proofs.Spots.{located-says}
use Rattle.octets.proofs.Filled.{done-accepted}
use Rattle.boundary.proofs.Small.{whole-done, roomy}
use Rattle.llachurep.specs.Gives.{Small, values_of, read_gives, find_gives}

-- a written message has 268 octets at the most
write-in-small : (circuit kind : ℕ) (fixed first second run : List ℕ) (n : ℕ) (octets : List ℕ) → write_in circuit kind fixed first second run ≡ accepted (n, octets) → n ≤ 268
unfolding write_in
write-in-small circuit kind fixed first second run n octets e = family.written_small isup (order_of circuit kind fixed first second run) n octets (past-test 9 0 (ltb 4095 circuit) e).1

pub write-small : (circuit kind : ℕ) (fixed first second run buffer : List ℕ) (n : ℕ) → (write_of circuit kind fixed first second run buffer).answer ≡ accepted n → n ≤ 268
unfolding write_of
write-small circuit kind fixed first second run buffer n e =
    let r = roomy buffer (write_in circuit kind fixed first second run) e in
    write-in-small circuit kind fixed first second run n r.0 r.1

-- the parts of a message that reads
pub read_small : (m : List ℕ) (x : Message) → read_of m ≡ accepted x → Small x
read_small m x e =
    let i = read-inside m x e in
    let w = (read-exactly m x).0 e in
    ((i.0.0, omega (arith, i.0.1, w.most)), (i.1.0, omega (arith, i.1.1, w.most)), (i.2.0, omega (arith, i.2.1, w.most)), (i.4.0, omega (arith, i.4.1, w.most)))

-- 10 numbers, where a message reads
pub read-gives-small : (m parts : List ℕ) (n : ℕ) → (read_gives m parts).answer ≡ accepted n → n ≤ 65535
unfolding read_gives
read-gives-small m parts n e =
    let r = done-accepted parts (read_of m then λ x. room_for parts (10, values_of x)) (whole-done e) in
    let t = then-accepted (read_of m) (λ x. room_for parts (10, values_of x)) r.1 in
    let u = past-test 13 0 (ltb (length parts) 10) t.2 in
    omega (arith, ap (λ (y : ℕ × List ℕ). y.0) (accepted-same u.1))

-- 0 or 100, where a parameter is found
pub find-gives-small : (m defaults : List ℕ) (name : ℕ) (stretch : List ℕ) (n : ℕ) → (find_gives m defaults name stretch).answer ≡ accepted n → n ≤ 65535
unfolding find_gives
find-gives-small m defaults name stretch n e =
    let r = done-accepted stretch (locate_of m defaults name then λ s. room_for stretch (s.holder, s.start ∷ s.len ∷ [])) (whole-done e) in
    let t = then-accepted (locate_of m defaults name) (λ s. room_for stretch (s.holder, s.start ∷ s.len ∷ [])) r.1 in
    let u = past-test 13 0 (ltb (length stretch) 2) t.2 in
    let h = located-says m defaults name t.0 t.1 in
    let q = ap (λ (y : ℕ × List ℕ). y.0) (accepted-same u.1) in
    ⊎_elim (λ y. omega (arith, y.0)) (λ y. omega (arith, y.0)) h.2.found
