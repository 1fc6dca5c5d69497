-- The reader accepts exactly the well-formed messages, and ignores what it should.
use Prim.Native.Nat.{ℕ, zero, suc, ◌+◌, ◌*◌, ◌%◌, ◌≤◌}
use mathlib.Core.Path.{◌≡◌, refl, sym, ◌∙◌, ap, subst}
use mathlib.Core.List.{List, ◌∷◌}
use mathlib.Core.Logic.{◌↔◌}
use native.Mathlib.Omega.{arith}
use lib.ListN.{length}
use Rattle.octets.specs.Octet.{octet}
use Rattle.octets.specs.Answer.{accepted, ◌then◌}
use Rattle.octets.proofs.Answer.{accepted-same, then-accepted, then_same}
use Rattle.parts.specs.declared.Parts.{Parts}
use Rattle.layout.specs.Container.{kind_at}
use Rattle.layout.specs.Gaps.{Agrees}
use Rattle.layout.proofs.Header.{header-ignored}
use Rattle.family.specs.Family.{read_in}
use Rattle.family.specs.Forms.{FamilyFormed as Formed}
use Rattle.family.proofs.Family as family
use Rattle.isup.specs.declared.Message.{Message}
use Rattle.isup.specs.Table.{shape_of, isup}
use Rattle.isup.specs.Read.{circuit_of_lem, message, read_of}
use Rattle.isup.specs.WellFormed.{WellFormed}

-- well formed is what the family says, with the circuit number and the type
abbrev pub formed : (m : List ℕ) (p : Parts) → Formed isup m p → WellFormed m (message m p)
formed m p f = record { shape = f.shape; params = f.params; least = omega (arith, f.least); most = f.most; circuit = refl; kind = refl; listed = f.listed; laid = f.laid }

abbrev pub framed : (m : List ℕ) (x : Message) → WellFormed m x → Formed isup m x.parts
framed m x f = record { shape = f.shape; params = f.params; least = omega (arith, f.least); most = f.most; listed = ap shape_of (sym f.kind) ∙ f.listed; laid = f.laid }

-- accepted exactly when well formed
pub read-exactly : (m : List ℕ) (x : Message) → (read_of m ≡ accepted x) ↔ WellFormed m x
unfolding read_of
read-exactly m x = (
  λ h. let g = then-accepted (read_in isup m) _ h in subst (λ (y : Message). WellFormed m y) (accepted-same g.2) (formed m g.0 ((family.read-exactly isup m g.0).0 g.1)),
  λ f.
      ap (λ z. z then λ p. accepted (message m p)) ((family.read-exactly isup m x.parts).1 (framed m x f))
      ∙ ap accepted (λ i. record { circuit = sym f.circuit i; kind = sym f.kind i; parts = x.parts }),
)

-- in one way only
pub well-formed-unique : (m : List ℕ) (x y : Message) → WellFormed m x → WellFormed m y → x ≡ y
well-formed-unique m x y f g = accepted-same (sym ((read-exactly m x).1 f) ∙ (read-exactly m y).1 g)

pub params-one : (m : List ℕ) (x y : Message) (f : WellFormed m x) (g : WellFormed m y) → f.params ≡ g.params
params-one m x y f g = family.params-one isup m x.parts y.parts (framed m x f) (framed m y g)

-- gaps and octets after the last part are ignored: a message that agrees on the circuit number's
-- twelve bits, the type, the fixed part, the pointers and the parts reads the same
pub gaps-read-same : (m m' : List ℕ) (x : Message) (f : WellFormed m x) → length m' ≤ 268 → circuit_of_lem m' ≡ circuit_of_lem m → Agrees f.laid m' → read_of m' ≡ read_of m
unfolding read_of
gaps-read-same m m' x f l c g =
    let k = family.gaps-read-same isup m m' x.parts (framed m x f) l g in
    then_same (read_in isup m') k.1 (λ p q. ap accepted (λ i. record { circuit = c i; kind = k.0 i; parts = p }))

-- the high half of octet 1 is ignored, in refusals too
pub high-half-ignored : (a b b' : ℕ) (r : List ℕ) → b % 16 ≡ b' % 16 → read_of (a ∷ b ∷ r) ≡ read_of (a ∷ b' ∷ r)
unfolding read_of
high-half-ignored a b b' r e =
    then_same (read_in isup (a ∷ b ∷ r))
    (header-ignored (a ∷ b ∷ r) (a ∷ b' ∷ r) 2 refl (λ i h. later i h) 268 (shape_of (kind_at (a ∷ b ∷ r) 2)))
    (λ p q. ap accepted (λ i. record { circuit = a + 256 * e i; kind = octet r 0; parts = p }))
  where
    later : (i : ℕ) → 2 ≤ i → octet (a ∷ b ∷ r) i ≡ octet (a ∷ b' ∷ r) i
    later zero h = absurd (omega arith)
    later (suc zero) h = absurd (omega arith)
    later (suc (suc i)) h = refl
