-- Any two outcomes that the contract of `busy_turn` allows are equal: the
-- totals, the buffer and the next place.
use Prim.Native.Nat.{ℕ}
use mathlib.Core.Path.{◌≡◌, ap}
use mathlib.Core.List.{List, []}
use Rattle.octets.proofs.Answer.{one_answer}
use Rattle.printing.specs.Sheet.{Sheet, sheet}
use Rattle.requests.specs.declared.Request.{Request}
use Rattle.requests.specs.Along.{said_in}
use Rattle.busy_lines.specs.Busy.{busy_done, BusyLeft, busy_left, busy_left_by}

-- the same totals and the same sheet
pub busy-left-same : {s t : List ℕ} {x y : Sheet} → s ≡ t → x ≡ y → busy_left s x ≡ busy_left t y
busy-left-same p q i = busy_left (p i) (q i)

pub busy-turn-determined : (request : Request) (states totals out : List ℕ) {s t a b : List ℕ} {r q : ℕ}
    → busy_left s (sheet a r) ≡ busy_left_by (busy_done states totals request.which (said_in [] request.fields)) (sheet out 0)
    → busy_left t (sheet b q) ≡ busy_left_by (busy_done states totals request.which (said_in [] request.fields)) (sheet out 0) → (s ≡ t) × (a ≡ b) × (r ≡ q)
busy-turn-determined request states totals out p e = let w = one_answer p e in (ap (λ (x : BusyLeft). x.totals) w, ap (λ (x : BusyLeft). x.sheet.octets) w, ap (λ (x : BusyLeft). x.sheet.at) w)
