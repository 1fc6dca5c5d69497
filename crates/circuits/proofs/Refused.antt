-- A refusal in the terms of the number that C sees, and that the contracts determine all.
use Prim.Native.Nat.{ℕ, ◌+◌, ◌*◌, ◌≤◌, ◌<◌}
use mathlib.Core.Path.{◌≡◌, sym, ◌∙◌, ap}
use mathlib.Core.Bool.{Bool}
use mathlib.Core.List.{List}
use native.Mathlib.Omega.{arith}
use Rattle.octets.specs.Octet.{AllOctets}
use Rattle.octets.specs.Answer.{Answer, accepted, refused}
use Rattle.telling.specs.Telling.{packed, packed_low, In16Bits}
use Rattle.telling.proofs.Telling.{told-whole}
use Rattle.rights.specs.Tables.{Tables}
use Rattle.board.specs.Board.{BoardAfter, board_after, board_of, desk_board_of}
use Rattle.board.proofs.Kept.{board-keeps, desk-board-keeps}
use Rattle.boundary.specs.Refuses.{Refuses}
use Rattle.boundary.proofs.Places.{Plain}
use Rattle.boundary.proofs.Refused.{refusing}
use Rattle.circuits.specs.Circuits.{Called, called, called_by}
use Rattle.circuits.proofs.Small.{act-small, act-plain, desk-small, desk-plain}

-- a call's answer that is told, and goes into 16 bits
pub written-call : {v : ℕ} {a : Answer ℕ} {s t b : List ℕ} (x : BoardAfter) → v ≡ packed_low a → board_after a s t b ≡ x → In16Bits x.answer → called v s t b ≡ called_by x
written-call {v} {a} {s} {t} {b} x e h fits =
    let value = e ∙ ap (λ (y : BoardAfter). packed_low y.answer) h ∙ told-whole x.answer fits in
    λ i. called (value i) (h i).states (h i).totals (h i).buffer

-- ---- the calls, which are lent three lists
module _ (a : BoardAfter) (lent kept buffer : List ℕ)
    (small : (k : ℕ) → a.answer ≡ accepted k → k < 65536)
    (so : (n at : ℕ) → a.answer ≡ refused n at → Plain n at)
    (keeps : (n at : ℕ) → a.answer ≡ refused n at → (a.states ≡ lent) × (a.totals ≡ kept) × (a.buffer ≡ buffer))
    (r : ℕ) (states totals left : List ℕ) (e : called r states totals left ≡ called_by a) where
  value : r ≡ packed a.answer
  value = ap (λ (g : Called). g.value) e

  low : (k : ℕ) → a.answer ≡ accepted k → r < 65536
  low k q = let v : r ≡ k = value ∙ ap packed q in omega (arith, small k q)

  high : (n at : ℕ) → a.answer ≡ refused n at → (r ≡ 65536 * n + at) × (1 ≤ n) × (at < 65536)
  high n at q = (value ∙ ap packed q, (so n at q).0, omega (arith, (so n at q).1))

  -- of each of the three
  of-list : (before after : List ℕ) → ((n at : ℕ) → a.answer ≡ refused n at → after ≡ before) → Refuses 65536 r a.answer before after
  of-list before after = refusing 65536 (λ n h. omega arith) (λ n at h. (omega arith, omega arith)) (λ k h. omega arith) r a.answer before after low high

  call-refuses : Refuses 65536 r a.answer lent states × Refuses 65536 r a.answer kept totals × Refuses 65536 r a.answer buffer left
  call-refuses = (
    of-list lent states (λ n at q. ap (λ (g : Called). g.states) e ∙ (keeps n at q).0),
    of-list kept totals (λ n at q. ap (λ (g : Called). g.totals) e ∙ (keeps n at q).1),
    of-list buffer left (λ n at q. ap (λ (g : Called). g.buffer) e ∙ (keeps n at q).2),
  )

-- of a message
pub act-refuses : (T : Tables) (totals : List ℕ) (sender : ℕ) (m buffer : List ℕ) → AllOctets m → (r : ℕ) (states totals' left : List ℕ) → called r states totals' left ≡ called_by (board_of T totals sender m buffer)
    → Refuses 65536 r (board_of T totals sender m buffer).answer T.states states × Refuses 65536 r (board_of T totals sender m buffer).answer totals totals' × Refuses 65536 r (board_of T totals sender m buffer).answer buffer left
act-refuses T totals sender m buffer o =
    call-refuses (board_of T totals sender m buffer) T.states totals buffer
    (λ k q. omega (arith, act-small T sender m buffer totals k o q))
    (act-plain T sender m buffer totals)
    (board-keeps T totals sender m buffer)

-- of a desk call
pub block-refuses : (states totals : List ℕ) (circuit : ℕ) (set : Bool) (buffer : List ℕ) (r : ℕ) (states' totals' left : List ℕ) → called r states' totals' left ≡ called_by (desk_board_of states totals circuit set buffer)
    → Refuses 65536 r (desk_board_of states totals circuit set buffer).answer states states' × Refuses 65536 r (desk_board_of states totals circuit set buffer).answer totals totals' × Refuses 65536 r (desk_board_of states totals circuit set buffer).answer buffer left
block-refuses states totals circuit set buffer =
    call-refuses (desk_board_of states totals circuit set buffer) states totals buffer
    (λ k q. omega (arith, desk-small states totals circuit set buffer k q))
    (desk-plain states totals circuit set buffer)
    (desk-board-keeps states totals circuit set buffer)

-- ---- any two outcomes that a contract allows are equal: the number, and each lent octet afterwards
-- of `llachurep_act` and `llachurep_block`
pub call-determined : (g : Called) (v w : ℕ) (s t a b k l : List ℕ) → called v s a k ≡ g → called w t b l ≡ g → (v ≡ w) × (s ≡ t) × (a ≡ b) × (k ≡ l)
call-determined g v w s t a b k l p q =
    let e = p ∙ sym q in
    (ap (λ (x : Called). x.value) e, ap (λ (x : Called). x.states) e, ap (λ (x : Called). x.totals) e, ap (λ (x : Called). x.buffer) e)
