-- Any two answers that a public function's contract allows are equal. The
-- start's refusal is the reader's.
use Prim.Native.Nat.{ℕ}
use mathlib.Core.Path.{◌≡◌, sym, ◌∙◌, ap}
use mathlib.Core.List.{List}
use denote.Ref.{Bor}
use Rattle.std.specs.Prelude.{⊤, Option, Result}
use Rattle.octets.specs.Answer.{refused}
use Rattle.octets.specs.Told.{told}
use Rattle.octets.specs.declared.Refusal.{Refusal}
use Rattle.octets.proofs.Answer.{one_answer}
use Rattle.octets.proofs.Told.{told-injective}
use Rattle.runs.specs.declared.Field.{Field}
use Rattle.family.specs.Family.{Family, read_in}
use Rattle.family.specs.Steps.{offer_at_lem, start_in}
use Rattle.isup.specs.Table.{isup}
use Rattle.isup.specs.Read.{read_of}
use Rattle.isup.proofs.Places.{parts as isup-parts}
use Rattle.bicc.specs.Table.{bicc}
use Rattle.bicc.specs.Read.{call_read_of}
use Rattle.bicc.proofs.Places.{parts as bicc-parts}
use Rattle.sccp.specs.Table.{sccp}
use Rattle.sccp.specs.Read.{sccp_read_of}
use Rattle.sccp.proofs.Places.{parts as sccp-parts}
use Rattle.cursor.specs.declared.Cursor.{Cursor}
use Rattle.cursor.specs.Start.{refusal_by, Begun, Moved}

-- a cursor is its message and its place
one-cursor : (s : Bor (List ℕ)) (at : ℕ) (r t : Cursor) → (r.message ≡ s) × (r.at ≡ at) → (t.message ≡ s) × (t.at ≡ at) → r ≡ t
one-cursor s at r t p q = let m = p.0 ∙ sym q.0 in let a = p.1 ∙ sym q.1 in λ i. record { message = m i; at = a i }

pub resume-determined : (s : Bor (List ℕ)) (at : ℕ) (r t : Cursor) → (r.message ≡ s) × (r.at ≡ at) → (t.message ≡ s) × (t.at ≡ at) → r ≡ t
resume-determined s at r t p q = one-cursor s at r t p q

-- the start of any family
pub start-determined : (F : Family) (s : Bor (List ℕ)) (r t : Cursor) → Begun F s r → Begun F s t → r ≡ t
start-determined F s r t p q = one-cursor s _ r t p q

-- where it starts, for whoever holds no cursor
pub place-determined : (F : Family) (m : List ℕ) (r t : ℕ) → r ≡ start_in F m → t ≡ start_in F m → r ≡ t
place-determined F m r t = one_answer

pub past-determined : (c r t : Cursor) → Moved c r → Moved c t → r ≡ t
past-determined c r t p q = one-cursor c.message _ r t p q

-- `step` and `step_of`
pub step-determined : (m : List ℕ) (at : ℕ) (r t : Option Field) → r ≡ offer_at_lem m at → t ≡ offer_at_lem m at → r ≡ t
step-determined m at r t = one_answer

-- what the reader of any family says
pub refusal-determined : (F : Family) (m : List ℕ) (r t : Result ⊤ Refusal) → told r ≡ refusal_by (read_in F m) → told t ≡ refusal_by (read_in F m) → r ≡ t
refusal-determined F m r t p q = told-injective r t (one_answer p q)

-- the refusal beside the start is the reader's, number and octet
module _ (m : List ℕ) (n at : ℕ) where
  pub isup-refusal : read_of m ≡ refused n at → refusal_by (read_in isup m) ≡ refused n at
  isup-refusal e = ap refusal_by (isup-parts m n at e)

  pub bicc-refusal : call_read_of m ≡ refused n at → refusal_by (read_in bicc m) ≡ refused n at
  bicc-refusal e = ap refusal_by (bicc-parts m n at e)

  pub sccp-refusal : sccp_read_of m ≡ refused n at → refusal_by (read_in sccp m) ≡ refused n at
  sccp-refusal e = ap refusal_by (sccp-parts m n at e)
