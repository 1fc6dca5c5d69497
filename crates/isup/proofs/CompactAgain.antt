-- Reading and writing again: the one compact form, or 12 where it cannot hold a length or a
-- pointer, and nothing else.
use Prim.Native.Nat.{ℕ}
use mathlib.Core.Path.{◌≡◌, refl, sym, ◌∙◌, ap}
use mathlib.Core.List.{List}
use native.Mathlib.Omega.{arith}
use borrow.Author.Tests.{le-ltb}
use Rattle.std.specs.Prelude.{Result}
use Rattle.octets.specs.Octet.{AllOctets}
use Rattle.octets.specs.Answer.{◌then◌, refused}
use Rattle.octets.specs.Filled.{leaving, room_for}
use Rattle.octets.specs.Faults.{Judges}
use Rattle.octets.specs.Told.{told}
use Rattle.octets.specs.declared.Refusal.{Refusal}
use Rattle.octets.proofs.Told.{writing-determined, writing-keeps}
use Rattle.parts.specs.Spans.{part_of}
use Rattle.writing.specs.Write.{order}
use Rattle.writing.specs.Compact.{said_with}
use Rattle.family.specs.Family.{family_write_in}
use Rattle.family.specs.Forms.{FamilySays as FamilySaysSame}
use Rattle.family.proofs.Family as family
use Rattle.family.proofs.Judged as judged
use Rattle.isup.specs.declared.Message.{Message}
use Rattle.isup.specs.Table.{isup}
use Rattle.isup.specs.Read.{circuit_of_lem}
use Rattle.isup.specs.Write.{head_of, order_of, write_in, write_of, compact_in, compact_of}
use Rattle.isup.specs.WellFormed.{WellFormed}
use Rattle.isup.specs.Compact.{CompactForm, Says, SaysSame}
use Rattle.isup.specs.WriteFaults.{compact_faults}
use Rattle.isup.proofs.Circuit.{circuit-low}
use Rattle.isup.proofs.Exactly.{framed}
use Rattle.isup.proofs.WriteBack.{no_third, tight, saying, said}

-- a message of octets, well formed
module _ (m : List ℕ) (o : AllOctets m) (x : Message) (f : WellFormed m x) where
  -- what is written again is what the message says, with the circuit number's spare bits 0
  again-order : order_of x.circuit x.kind (part_of m x.parts.fixed) (part_of m x.parts.first) (part_of m x.parts.second) (part_of m x.parts.optional) ≡ said_with (head_of (circuit_of_lem m)) m 2 x.parts
  again-order =
      let t = no_third m x f in
      λ i. order (head_of (f.circuit i)) (f.kind i) (part_of m x.parts.fixed) (part_of m x.parts.first) (part_of m x.parts.second) (sym t i) (part_of m x.parts.optional)

  -- so it is what the writer makes of what was read
  pub compact-writes : compact_in m ≡ write_in x.circuit x.kind (part_of m x.parts.fixed) (part_of m x.parts.first) (part_of m x.parts.second) (part_of m x.parts.optional)
  unfolding write_in compact_in
  compact-writes =
      family.compact-writes isup m o x.parts (framed m x f) (head_of (circuit_of_lem m)) refl
      ∙ ap (family_write_in isup) (sym again-order)
      ∙ rw (le-ltb 4095 x.circuit (omega (arith, f.circuit, circuit-low m o))) refl

  -- to say the same is to say it to the family
  pub same-said : (ys : List ℕ) → AllOctets ys → SaysSame m x ys → FamilySaysSame isup (head_of (circuit_of_lem m)) m x.parts ys
  same-said ys a s = (s.0.parts, tight ys s.0 s.1, saying ys s.0 a s.1 _ _ _ _ _ _ s.2 ∙ again-order)

  pub said_same : (ys : List ℕ) → FamilySaysSame isup (head_of (circuit_of_lem m)) m x.parts ys → SaysSame m x ys
  said_same ys s =
      let q = said ys s.0 x.circuit x.kind (part_of m x.parts.fixed) (part_of m x.parts.first) (part_of m x.parts.second) (part_of m x.parts.optional) (omega (arith, f.circuit, circuit-low m o)) s.1 (s.2 ∙ sym again-order) in
      (q.0, q.2, q.3)

-- two messages in compact form that say the same are the same octets
pub compact-form-one : (m m' : List ℕ) (x x' : Message) → AllOctets m → AllOctets m' → CompactForm m x → CompactForm m' x'
    → Says m x x'.circuit x'.kind (part_of m' x'.parts.fixed) (part_of m' x'.parts.first) (part_of m' x'.parts.second) (part_of m' x'.parts.optional) → m ≡ m'
compact-form-one m m' x x' o o' c c' s =
    family.compact-form-one isup m m' x.parts x'.parts o o' (tight m x c) (tight m' x' c')
    (saying m x o c _ _ _ _ _ _ s ∙ sym (saying m' x' o' c' _ _ _ _ _ _ (record { circuit = refl; kind = refl; fixed = refl; first = refl; second = refl; run = refl })))

-- refused exactly when
pub compact-judges : (m buffer : List ℕ) → Judges (compact_of m buffer).answer (compact_faults m buffer)
unfolding compact_in compact_of
compact-judges m buffer = judged.compact-judges isup m (head_of (circuit_of_lem m)) buffer (λ h. refl)

-- ---- any two answers that a contract allows are equal, and a refusal keeps the buffer
pub write-determined : (circuit kind : ℕ) (fixed first second run buffer : List ℕ) (r t : Result ℕ Refusal) (left left' : List ℕ)
    → leaving (told r) left ≡ write_of circuit kind fixed first second run buffer → leaving (told t) left' ≡ write_of circuit kind fixed first second run buffer → (r ≡ t) × (left ≡ left')
write-determined circuit kind fixed first second run buffer r t left left' = writing-determined (write_of circuit kind fixed first second run buffer) r t left left'

pub write_keeps : (circuit kind : ℕ) (fixed first second run buffer : List ℕ) (n at : ℕ) (left : List ℕ) → leaving (refused n at) left ≡ write_of circuit kind fixed first second run buffer → left ≡ buffer
unfolding write_of
write_keeps circuit kind fixed first second run buffer n at left e = writing-keeps buffer (write_in circuit kind fixed first second run then room_for buffer) n at left e

pub compact-determined : (m buffer : List ℕ) (r t : Result ℕ Refusal) (left left' : List ℕ) → leaving (told r) left ≡ compact_of m buffer → leaving (told t) left' ≡ compact_of m buffer → (r ≡ t) × (left ≡ left')
compact-determined m buffer r t left left' = writing-determined (compact_of m buffer) r t left left'

pub compact-keeps : (m buffer : List ℕ) (n at : ℕ) (left : List ℕ) → leaving (refused n at) left ≡ compact_of m buffer → left ≡ buffer
unfolding compact_of
compact-keeps m buffer n at left e = writing-keeps buffer (compact_in m then room_for buffer) n at left e
