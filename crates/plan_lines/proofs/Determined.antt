-- Any two outcomes that the contract of `plan_turn` allows are equal: the
-- ticks, the buffer and the next place.
use Prim.Native.Nat.{ℕ}
use mathlib.Core.Path.{◌≡◌, ap}
use mathlib.Core.List.{List}
use Rattle.octets.proofs.Answer.{one_answer}
use Rattle.rights.specs.Tables.{Tables}
use Rattle.printing.specs.Sheet.{Sheet, sheet}
use Rattle.requests.specs.declared.Request.{Request}
use Rattle.requests.specs.Along.{said_in}
use Rattle.plan_lines.specs.Night.{night_done, NightLeft, night_left, night_left_by}

-- the same ticks and the same sheet
pub night-left-same : {s t : List ℕ} {x y : Sheet} → s ≡ t → x ≡ y → night_left s x ≡ night_left t y
night-left-same p q i = night_left (p i) (q i)

pub plan-turn-determined : (request : Request) (octets : List ℕ) (T : Tables) (ticks out : List ℕ) {s t a b : List ℕ} {r q : ℕ}
    → night_left s (sheet a r) ≡ night_left_by (night_done T ticks request.which (said_in octets request.fields)) (sheet out 0)
    → night_left t (sheet b q) ≡ night_left_by (night_done T ticks request.which (said_in octets request.fields)) (sheet out 0) → (s ≡ t) × (a ≡ b) × (r ≡ q)
plan-turn-determined request octets T ticks out p e = let w = one_answer p e in (ap (λ (x : NightLeft). x.ticks) w, ap (λ (x : NightLeft). x.sheet.octets) w, ap (λ (x : NightLeft). x.sheet.at) w)
