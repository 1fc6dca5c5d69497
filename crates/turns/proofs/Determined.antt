-- Any two outcomes that the contract of `row_turn` allows are equal: what the desk holds, the
-- buffer and the next place.
use Prim.Native.Nat.{ℕ}
use mathlib.Core.Path.{◌≡◌, ap}
use mathlib.Core.List.{List}
use Rattle.octets.proofs.Answer.{one_answer}
use Rattle.printing.specs.Sheet.{Sheet, sheet}
use Rattle.requests.specs.declared.Request.{Request}
use Rattle.requests.specs.Along.{said_in}
use Rattle.turns.specs.Turns.{Desk, DeskLeft, desk_left, desk_left_by, row_turn_lem}

-- the same of what the desk holds, and the same sheet
pub desk-left-same : {D E : Desk} {x y : Sheet} → D ≡ E → x ≡ y → desk_left D x ≡ desk_left E y
desk-left-same p q i = desk_left (p i) (q i)

-- two outcomes that are one
pub desk-left-determined : {l : DeskLeft} {D E : Desk} {a b : List ℕ} {r q : ℕ} → desk_left D (sheet a r) ≡ l → desk_left E (sheet b q) ≡ l → (D ≡ E) × (a ≡ b) × (r ≡ q)
desk-left-determined p e = let s = one_answer p e in (ap (λ (x : DeskLeft). x.desk) s, ap (λ (x : DeskLeft). x.sheet.octets) s, ap (λ (x : DeskLeft). x.sheet.at) s)

pub row-turn-determined : (request : Request) (xs : List ℕ) (D : Desk) (out : List ℕ) {E F : Desk} {a b : List ℕ} {r q : ℕ}
    → desk_left E (sheet a r) ≡ desk_left_by (row_turn_lem D request.which (said_in xs request.fields)) (sheet out 0)
    → desk_left F (sheet b q) ≡ desk_left_by (row_turn_lem D request.which (said_in xs request.fields)) (sheet out 0) → (E ≡ F) × (a ≡ b) × (r ≡ q)
row-turn-determined request xs D out = desk-left-determined
