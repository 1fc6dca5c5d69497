-- The reader accepts exactly the well-formed messages, and ignores what it should: family's
-- theorems, with no header, 268 octets and SCCP's table.
use Prim.Native.Nat.{ℕ, ◌≤◌}
use mathlib.Core.Path.{◌≡◌, refl, sym, ◌∙◌, ap, subst}
use mathlib.Core.List.{List}
use mathlib.Core.Logic.{◌↔◌}
use native.Mathlib.Omega.{arith}
use lib.ListN.{length}
use Rattle.octets.specs.Answer.{accepted, ◌then◌}
use Rattle.octets.proofs.Answer.{accepted-same, then-accepted, then_same}
use Rattle.parts.specs.declared.Parts.{Parts}
use Rattle.layout.specs.Gaps.{Agrees}
use Rattle.family.specs.Family.{read_in}
use Rattle.family.specs.Forms.{FamilyFormed as Formed}
use Rattle.family.proofs.Family as family
use Rattle.sccp.specs.declared.Message.{Message}
use Rattle.sccp.specs.Table.{sccp_shape_of, sccp}
use Rattle.sccp.specs.Read.{sccp_message, sccp_read_of}
use Rattle.sccp.specs.WellFormed.{SccpFormed}

-- well formed is what the family says, with the type
abbrev pub formed : (m : List ℕ) (p : Parts) → Formed sccp m p → SccpFormed m (sccp_message m p)
formed m p f = record { shape = f.shape; params = f.params; least = omega (arith, f.least); most = f.most; kind = refl; listed = f.listed; laid = f.laid }

abbrev pub framed : (m : List ℕ) (x : Message) → SccpFormed m x → Formed sccp m x.parts
framed m x f = record { shape = f.shape; params = f.params; least = omega (arith, f.least); most = f.most; listed = ap sccp_shape_of (sym f.kind) ∙ f.listed; laid = f.laid }

-- accepted exactly when well formed
pub read-exactly : (m : List ℕ) (x : Message) → (sccp_read_of m ≡ accepted x) ↔ SccpFormed m x
unfolding sccp_read_of
read-exactly m x = (
  λ h. let g = then-accepted (read_in sccp m) _ h in subst (λ (y : Message). SccpFormed m y) (accepted-same g.2) (formed m g.0 ((family.read-exactly sccp m g.0).0 g.1)),
  λ f.
      ap (λ z. z then λ p. accepted (sccp_message m p)) ((family.read-exactly sccp m x.parts).1 (framed m x f))
      ∙ ap accepted (λ i. record { kind = sym f.kind i; parts = x.parts }),
)

-- in one way only
pub well-formed-unique : (m : List ℕ) (x y : Message) → SccpFormed m x → SccpFormed m y → x ≡ y
well-formed-unique m x y f g = accepted-same (sym ((read-exactly m x).1 f) ∙ (read-exactly m y).1 g)

-- gaps and octets after the last part are ignored: a message that agrees on the type, the fixed
-- part, the pointers and the parts reads the same
pub gaps-read-same : (m m' : List ℕ) (x : Message) (f : SccpFormed m x) → length m' ≤ 268 → Agrees f.laid m' → sccp_read_of m' ≡ sccp_read_of m
unfolding sccp_read_of
gaps-read-same m m' x f l g =
    let k = family.gaps-read-same sccp m m' x.parts (framed m x f) l g in
    then_same (read_in sccp m') k.1 (λ p q. ap accepted (λ i. record { kind = k.0 i; parts = p }))
