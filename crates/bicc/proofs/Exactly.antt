-- The reader accepts exactly the well-formed messages, and ignores what it should: family's
-- theorems, with four octets of code, 270 octets and BICC's table.
use Prim.Native.Nat.{ℕ, ◌≤◌}
use mathlib.Core.Path.{◌≡◌, refl, sym, ◌∙◌, ap, subst}
use mathlib.Core.List.{List}
use mathlib.Core.Logic.{◌↔◌}
use native.Mathlib.Omega.{arith}
use lib.ListN.{length}
use Rattle.octets.specs.Answer.{accepted, ◌then◌}
use Rattle.octets.proofs.Answer.{accepted-same, then-accepted, then_same}
use Rattle.parts.specs.declared.Parts.{Parts}
use Rattle.layout.specs.Gaps.{Agrees}
use Rattle.family.specs.Family.{read_in}
use Rattle.family.specs.Forms.{FamilyFormed as Formed}
use Rattle.family.proofs.Family as family
use Rattle.bicc.specs.declared.Message.{Message}
use Rattle.bicc.specs.Table.{call_shape_of, bicc}
use Rattle.bicc.specs.Read.{call_code_of, call_message, call_read_of}
use Rattle.bicc.specs.WellFormed.{CallFormed}

-- well formed is what the family says, with the code and the type
abbrev pub formed : (m : List ℕ) (p : Parts) → Formed bicc m p → CallFormed m (call_message m p)
formed m p f = record { shape = f.shape; params = f.params; least = omega (arith, f.least); most = f.most; code = refl; kind = refl; listed = f.listed; laid = f.laid }

abbrev pub framed : (m : List ℕ) (x : Message) → CallFormed m x → Formed bicc m x.parts
framed m x f = record { shape = f.shape; params = f.params; least = omega (arith, f.least); most = f.most; listed = ap call_shape_of (sym f.kind) ∙ f.listed; laid = f.laid }

-- accepted exactly when well formed
pub read-exactly : (m : List ℕ) (x : Message) → (call_read_of m ≡ accepted x) ↔ CallFormed m x
unfolding call_read_of
read-exactly m x = (
  λ h. let g = then-accepted (read_in bicc m) _ h in subst (λ (y : Message). CallFormed m y) (accepted-same g.2) (formed m g.0 ((family.read-exactly bicc m g.0).0 g.1)),
  λ f.
      ap (λ z. z then λ p. accepted (call_message m p)) ((family.read-exactly bicc m x.parts).1 (framed m x f))
      ∙ ap accepted (λ i. record { code = sym f.code i; kind = sym f.kind i; parts = x.parts }),
)

-- in one way only
pub well-formed-unique : (m : List ℕ) (x y : Message) → CallFormed m x → CallFormed m y → x ≡ y
well-formed-unique m x y f g = accepted-same (sym ((read-exactly m x).1 f) ∙ (read-exactly m y).1 g)

-- gaps and octets after the last part are ignored: a message that agrees on the code, the type, the
-- fixed part, the pointers and the parts reads the same
pub gaps-read-same : (m m' : List ℕ) (x : Message) (f : CallFormed m x) → length m' ≤ 270 → call_code_of m' ≡ call_code_of m → Agrees f.laid m' → call_read_of m' ≡ call_read_of m
unfolding call_read_of
gaps-read-same m m' x f l c g =
    let k = family.gaps-read-same bicc m m' x.parts (framed m x f) l g in
    then_same (read_in bicc m') k.1 (λ p q. ap accepted (λ i. record { code = c i; kind = k.0 i; parts = p }))
