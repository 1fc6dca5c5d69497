-- Any two outcomes that the contract of `further_turn` allows are equal: the
-- totals, the buffer and the next place.
use Prim.Native.Nat.{ℕ}
use mathlib.Core.Path.{◌≡◌, ap}
use mathlib.Core.List.{List}
use Rattle.octets.proofs.Answer.{one_answer}
use Rattle.printing.specs.Sheet.{sheet}
use Rattle.requests.specs.declared.Request.{Request}
use Rattle.requests.specs.Along.{said_in}
use Rattle.busy_lines.specs.Busy.{BusyLeft, busy_left, busy_left_by}
use Rattle.further_lines.specs.Further.{further_done}

pub further-turn-determined : (request : Request) (xs states totals out : List ℕ) {s t a b : List ℕ} {r q : ℕ}
    → busy_left s (sheet a r) ≡ busy_left_by (further_done states totals request.which (said_in xs request.fields)) (sheet out 0)
    → busy_left t (sheet b q) ≡ busy_left_by (further_done states totals request.which (said_in xs request.fields)) (sheet out 0) → (s ≡ t) × (a ≡ b) × (r ≡ q)
further-turn-determined request xs states totals out p e = let w = one_answer p e in (ap (λ (x : BusyLeft). x.totals) w, ap (λ (x : BusyLeft). x.sheet.octets) w, ap (λ (x : BusyLeft). x.sheet.at) w)
