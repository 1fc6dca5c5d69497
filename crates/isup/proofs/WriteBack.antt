-- What is written reads back as it was given, in the compact form; refusals are
-- the first fault in the paper's order.
use Prim.Native.Nat.{ℕ, ◌+◌, ◌*◌, ◌/◌, ◌%◌, ◌≤◌}
use mathlib.Core.Path.{◌≡◌, refl, sym, ◌∙◌, ap}
use mathlib.Core.List.{List, []}
use native.Mathlib.Omega.{arith}
use borrow.Author.Tests.{ltb-true, ltb-false}
use lib.Dec.{ltb}
use lib.ListN.{length}
use Rattle.octets.specs.Octet.{octet, octets, AllOctets}
use Rattle.octets.specs.Answer.{accepted, ◌then◌}
use Rattle.octets.specs.Filled.{room_for}
use Rattle.octets.specs.Faults.{Judges}
use Rattle.octets.proofs.Octet.{octets-octet}
use Rattle.octets.proofs.Answer.{past-test}
use Rattle.octets.proofs.Filled.{judges-filled, room-judges}
use Rattle.octets.proofs.Faults.{judges-if}
use Rattle.parts.specs.declared.Parts.{Parts}
use Rattle.parts.specs.Spans.{part_of}
use Rattle.writing.specs.Write.{Order, order}
use Rattle.writing.specs.Compact.{said_by}
use Rattle.writing.proofs.Again.{said_fits}
use Rattle.family.specs.Forms.{FamilyCompact as Tight}
use Rattle.family.proofs.Family as family
use Rattle.family.proofs.Judged as judged
use Rattle.isup.specs.declared.Message.{Message}
use Rattle.isup.specs.Table.{isup}
use Rattle.isup.specs.Read.{message, read_of}
use Rattle.isup.specs.Write.{head_of, order_of, write_in, write_of}
use Rattle.isup.specs.WellFormed.{WellFormed}
use Rattle.isup.specs.Compact.{CompactForm, Says}
use Rattle.isup.specs.WriteFaults.{writer_faults, write_faults}
use Rattle.isup.proofs.Circuit.{high_small, head-back, circuit-back}
use Rattle.isup.proofs.Exactly.{formed, framed, read-exactly}
use Rattle.isup.proofs.Table.{table-two}

-- nothing stands in a third variable part
pub no_third : (m : List ℕ) (x : Message) (f : WellFormed m x) → part_of m x.parts.third ≡ []
no_third m x f = (said_fits m 2 f.shape x.parts f.params f.laid []).third (table-two x.kind f.shape f.listed)

-- in compact form is what the family says, with the spare bits 0
abbrev pub tight : (m : List ℕ) (x : Message) → CompactForm m x → Tight isup m x.parts
tight m x c = record { formed = framed m x c.formed; tight = c.tight }

-- a message in compact form that says these says them to the family
pub saying : (ys : List ℕ) (y : Message) → AllOctets ys → CompactForm ys y → (circuit kind : ℕ) (fixed first second run : List ℕ) → Says ys y circuit kind fixed first second run
    → said_by ys 2 y.parts ≡ order_of circuit kind fixed first second run
saying ys y o c circuit kind fixed first second run s =
    let f = c.formed in
    let h : octets ys 0 2 ≡ head_of circuit = sym (head-back ys o c.spare (omega (arith, f.least))) ∙ ap head_of (sym f.circuit ∙ s.circuit) in
    let k : octet ys 2 ≡ kind = sym f.kind ∙ s.kind in
    let t = no_third ys y f in
    λ i. order (h i) (k i) (s.fixed i) (s.first i) (s.second i) (t i) (s.run i)

-- and one that says them to the family says them
pub said : (ys : List ℕ) (p : Parts) (circuit kind : ℕ) (fixed first second run : List ℕ) → circuit ≤ 4095 → Tight isup ys p → said_by ys 2 p ≡ order_of circuit kind fixed first second run
    → (x : Message) × (read_of ys ≡ accepted x) × CompactForm ys x × Says ys x circuit kind fixed first second run
said ys p circuit kind fixed first second run low c e =
    let hd : octets ys 0 2 ≡ head_of circuit = ap (λ (z : Order). z.head) e in
    let h₀ : octet ys 0 ≡ circuit % 256 = sym (octets-octet ys 0 2 0 (omega arith)) ∙ ap (λ (l : List ℕ). octet l 0) hd in
    let h₁ : octet ys 1 ≡ circuit / 256 = sym (octets-octet ys 0 2 1 (omega arith)) ∙ ap (λ (l : List ℕ). octet l 1) hd in
    let w : WellFormed ys (message ys p) = formed ys p c.formed in (
      message ys p,
      (read-exactly ys (message ys p)).1 w,
      record { formed = w; spare = omega (arith, h₁, high_small circuit low); tight = c.tight },
      record {
        circuit = (λ i. h₀ i + 256 * (h₁ i % 16)) ∙ circuit-back circuit low;
        kind = ap (λ (z : Order). z.kind) e;
        fixed = ap (λ (z : Order). z.fixed) e;
        first = ap (λ (z : Order). z.first) e;
        second = ap (λ (z : Order). z.second) e;
        run = ap (λ (z : Order). z.run) e;
      },
    )

-- the octets that are written read; they are in the compact form and say
-- what was given, octet for octet
pub write-reads-back-in : (circuit kind : ℕ) (fixed first second run : List ℕ) (n : ℕ) (ys : List ℕ) → write_in circuit kind fixed first second run ≡ accepted (n, ys)
    → (n ≡ length ys) × ((x : Message) × (read_of ys ≡ accepted x) × CompactForm ys x × Says ys x circuit kind fixed first second run)
unfolding write_in
write-reads-back-in circuit kind fixed first second run n ys e =
    let a = past-test 9 0 (ltb 4095 circuit) e in
    let b = family.write-reads-back-in isup (order_of circuit kind fixed first second run) n ys refl a.1 in
    (b.0, said ys b.1.0 circuit kind fixed first second run (ltb-false _ _ a.0) b.1.2 b.1.3)

-- ---- refused exactly when
pub writer-judges : (circuit kind : ℕ) (fixed first second run : List ℕ) → Judges (write_in circuit kind fixed first second run) (writer_faults circuit kind fixed first second run)
unfolding write_in
writer-judges circuit kind fixed first second run =
    judges-if (ltb 4095 circuit) (ltb-true _ _) (λ x y. omega (arith, ltb-false)) (λ c. judged.writer-judges isup (order_of circuit kind fixed first second run))

pub write-judges : (circuit kind : ℕ) (fixed first second run buffer : List ℕ) → Judges (write_of circuit kind fixed first second run buffer).answer (write_faults circuit kind fixed first second run buffer)
unfolding write_of
write-judges circuit kind fixed first second run buffer =
    judges-filled buffer (write_in circuit kind fixed first second run then room_for buffer) (write_faults circuit kind fixed first second run buffer)
    (room-judges (write_in circuit kind fixed first second run) buffer (writer_faults circuit kind fixed first second run) (writer-judges circuit kind fixed first second run))
