-- Any two outcomes that the contract of `block_turn` allows are equal: the states, the totals, the
-- buffer and the next place.
use Prim.Native.Nat.{ℕ}
use mathlib.Core.Path.{◌≡◌, ap}
use mathlib.Core.List.{List, []}
use Rattle.octets.proofs.Answer.{one_answer}
use Rattle.printing.specs.Sheet.{Sheet, sheet}
use Rattle.requests.specs.declared.Request.{Request}
use Rattle.requests.specs.Along.{said_in}
use Rattle.block_lines.specs.Blocks.{block_done, Blocked, blocked, blocked_by}

-- the same states, the same totals and the same sheet
pub blocked-same : {s t u v : List ℕ} {x y : Sheet} → s ≡ t → u ≡ v → x ≡ y → blocked s u x ≡ blocked t v y
blocked-same p q r i = blocked (p i) (q i) (r i)

pub block-turn-determined : (request : Request) (states totals out : List ℕ) {s t u v a b : List ℕ} {r q : ℕ}
    → blocked s u (sheet a r) ≡ blocked_by (block_done states totals request.which (said_in [] request.fields)) (sheet out 0)
    → blocked t v (sheet b q) ≡ blocked_by (block_done states totals request.which (said_in [] request.fields)) (sheet out 0) → (s ≡ t) × (u ≡ v) × (a ≡ b) × (r ≡ q)
block-turn-determined request states totals out p e =
    let w = one_answer p e in
    (ap (λ (x : Blocked). x.states) w, ap (λ (x : Blocked). x.totals) w, ap (λ (x : Blocked). x.sheet.octets) w, ap (λ (x : Blocked). x.sheet.at) w)
