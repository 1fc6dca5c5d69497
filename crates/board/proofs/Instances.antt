-- The hypotheses of the laws can be met: for each law that speaks of accepted calls one sample, on
-- concrete octets and tables.
use Prim.Native.Nat.{ℕ, zero, suc, ◌+◌, ◌≤◌}
use mathlib.Core.Path.{◌≡◌, refl, sym, ◌∙◌, ap, subst}
use mathlib.Core.Bool.{Bool, true, false, not}
use mathlib.Core.List.{List, [], ◌∷◌}
use mathlib.Core.Logic.{inl, inr}
use native.Mathlib.Omega.{arith}
use borrow.Author.Tests.{eq-eqb}
use lib.Dec.{eqb}
use lib.ListN.{length, replicate, length-replicate, get_or-replicate}
use Rattle.octets.specs.Octet.{octet}
use Rattle.octets.specs.Choice.{when◌then◌else◌}
use Rattle.octets.specs.Answer.{accepted}
use Rattle.octets.specs.Sum.{total}
use Rattle.layout.specs.Container.{variable_at_lem, optional_at_lem, variable_slot_lem, optional_slot_lem, container_of, parts_of}
use Rattle.parts.specs.Overlap.{shares_of, judged, held}
use Rattle.isup.specs.Table.{shape_of}
use Rattle.isup.specs.Read.{read_of}
use Rattle.isup.specs.Types.{IAM, GRS, CGB, CGU}
use Rattle.marks.specs.Marks.{marks_in_lem}
use Rattle.rows.specs.declared.Act.{Act}
use Rattle.rows.specs.declared.Act.TheVariants.{Seize, ResetGroup, BlockGroup, UnblockGroup}
use Rattle.rows.specs.Rows.{Legal, is_legal, blocked_row, changed_row}
use Rattle.rows.proofs.Legality.{is-legal}
use Rattle.asks.specs.declared.Ask.{Ask}
use Rattle.asks.specs.Types.{act_for}
use Rattle.asks.specs.Asks.{one_ask, broken_range, broken_group, asked_in, ask_of, bit_at, mark_of}
use Rattle.replies.specs.Replies.{reply_length}
use Rattle.rights.specs.Tables.{tables}
use Rattle.rights.specs.Rights.{is_mine, has_right, may_help}
use Rattle.rights.specs.Permits.{is_taken, is_unhelpable}
use Rattle.rights.specs.Names.{Named}
use Rattle.rights.proofs.Meaning.{none_found}
use Rattle.hub.specs.Arrival.{Event, heard, ours}
use Rattle.hub.specs.Desk.{desk_grant, desk_of}
use Rattle.hub.proofs.Writing.{length-reply}
use Rattle.hub.proofs.Legality.{call-legal}
use Rattle.hub.proofs.Refutations.{rows, owned, rows-sized, owned-sized}
use Rattle.board.specs.Board.{BoardAfter, desk_board_of}
use Rattle.board.specs.Arrival.{Standings, kept_by, left_in}
use Rattle.board.proofs.Kept.{desk-board-acts}
use Rattle.board.proofs.Orders.{rows_left, rows-length, totals-length}
use Rattle.board.proofs.Refutations.{standing, all_idle}
use Rattle.board.proofs.Touching.{heard_by, row-after, group-touches}
use Rattle.board.proofs.Laws.{grant-so, board-granted, cgb-united, cgb-twice, grs-after, two-kinds-no-one, hardware-ends-busy, desk-not-swallowed}

-- ---- the messages: all are about circuits 0 and 1, but for the IAM
-- CGB or CGU of that kind, with that status
abbrev group : ℕ → ℕ → ℕ → List ℕ
group type kind status = 0 ∷ 0 ∷ type ∷ kind ∷ 1 ∷ 2 ∷ 1 ∷ status ∷ []

-- CGB for maintenance that marks circuit 0
abbrev page₁ : List ℕ
page₁ = group CGB 0 1

-- circuit 1
abbrev page₂ : List ℕ
page₂ = group CGB 0 2

-- both
abbrev pages : List ℕ
pages = group CGB 0 3

-- CGB for hardware that marks circuit 0
abbrev faulty : List ℕ
faulty = group CGB 1 1

-- CGU for hardware that marks circuit 0
abbrev mended : List ℕ
mended = group CGU 1 1

-- GRS
abbrev reset : List ℕ
reset = 0 ∷ 0 ∷ GRS ∷ 1 ∷ 1 ∷ 1 ∷ []

-- IAM for circuit 1, with an empty called number and no optional part
abbrev seize_next : List ℕ
seize_next = 1 ∷ 0 ∷ IAM ∷ 0 ∷ 0 ∷ 0 ∷ 0 ∷ 0 ∷ 2 ∷ 0 ∷ 0 ∷ []

-- what is asked of circuits 0 and 1
abbrev asked : Act → ℕ → ℕ → Ask
asked act kind status = record { act = act; circuit = 0; range = 1; block = kind; status = status }

-- what each asks
asks : (ask_of page₁ ≡ accepted (asked BlockGroup 0 7)) × (ask_of page₂ ≡ accepted (asked BlockGroup 0 7)) × (ask_of pages ≡ accepted (asked BlockGroup 0 7))
    × (ask_of faulty ≡ accepted (asked BlockGroup 1 7)) × (ask_of mended ≡ accepted (asked UnblockGroup 1 7))
    × (ask_of reset ≡ accepted (asked ResetGroup 0 0)) × (ask_of seize_next ≡ accepted (one_ask Seize 1))
unfolding ask_of asked_in act_for broken_range broken_group marks_in_lem total read_of parts_of container_of variable_slot_lem variable_at_lem optional_slot_lem optional_at_lem judged shares_of shape_of held
asks = (refl, refl, refl, refl, refl, refl, refl)

-- ---- the tables, and when a message is accepted
-- the answer buffer
abbrev zeros : List ℕ
zeros = replicate 268 0

room-there : length zeros ≡ 268
room-there = length-replicate {A = ℕ} 268 0

-- what becomes of tables by a message from sender 1, who owns every circuit; nobody helps
abbrev said : Standings → List ℕ → BoardAfter
said s m = heard_by (owned 1) (owned 0) s 1 m zeros

-- the rows and the totals then
abbrev by : Standings → List ℕ → Standings
by s m = left_in (said s m)

-- it is accepted, with an answer of n octets
abbrev Takes : Standings → List ℕ → ℕ → Type 0
Takes s m n = (said s m).answer ≡ accepted n

-- 4096 rows, of which the first two are legal, and 64 totals
abbrev Ready : Standings → Type 0
Ready s = (length s.rows ≡ 4096) × (length s.totals ≡ 64) × ((c : ℕ) → c ≤ 1 → Legal (octet s.rows c))

ready : (first : ℕ) → Legal first → Ready (standing first)
ready first l = (rows-sized first, ap suc (length-replicate {A = ℕ} 63 0), legal)
  where
    legal : (c : ℕ) → c ≤ 1 → Legal (octet (rows first) c)
    legal zero h = l
    legal (suc zero) h = inl refl
    legal (suc (suc c)) h = absurd (omega (arith, h))

-- so they stay, whatever the call
ready-after : (s : Standings) (e : Event) → Ready s → Ready (left_in (kept_by (owned 1) (owned 0) e zeros s))
ready-after s e w = (
  rows-length (owned 1) (owned 0) e zeros s ∙ w.0,
  totals-length (owned 1) (owned 0) e zeros s ∙ w.1,
  λ c h.
      subst (λ (l : List ℕ). Legal (octet l c)) (sym (rows_left (owned 1) (owned 0) e zeros s true (eq-eqb _ _ w.1)))
      (call-legal (owned 1) (owned 0) e zeros s.rows c (w.2 c h)),
)

-- there a message on circuits 0 and 1 is accepted, where IAM's circuit is
-- free and the answer has room
accepts : (s : Standings) (m : List ℕ) (a : Ask) (n : ℕ) → Ready s → ask_of m ≡ accepted a → a.circuit + a.range ≤ 1 → is_taken s.rows a.act a.circuit ≡ false
    → reply_length a.act a.range (octet s.rows a.circuit) ≡ n → n ≤ 268 → Takes s m n
unfolding is_unhelpable
accepts s m a n w e last free size room =
    let long = length-reply s.rows m a ∙ size in
    let grant =
    grant-so (tables s.rows (owned 1) (owned 0)) 1 m (length zeros) a w.0 (owned-sized 1) (owned-sized 0) e
    (none_found (has_right (owned 1) (owned 0) 1) a.circuit (a.range + 1) (λ j p q. ap (λ (b : Bool). when b then true else is_mine (owned 0) 1 j) (mine j (omega (arith, q, last)))))
    (owner (may_help a.act a.block) (none_found (is_mine (owned 1) 1) a.circuit (a.range + 1) (λ j p q. mine j (omega (arith, q, last)))))
    (none_found (λ c. is_legal (octet s.rows c)) a.circuit (a.range + 1) (λ j p q. is-legal _ (w.2 j (omega (arith, q, last)))))
    free
    (omega (arith, long, room, room-there)) in
    ap (λ (x : BoardAfter). x.answer) (board-granted (tables s.rows (owned 1) (owned 0)) s.totals 1 m zeros a w.1 e grant) ∙ ap (λ (k : ℕ). accepted k) long
  where
    mine : (j : ℕ) → j ≤ 1 → is_mine (owned 1) 1 j ≡ true
    mine j h = ap (λ (k : ℕ). eqb k 1) (get_or-replicate 4096 j 1 0 (omega (arith, h)))

    owner : (b : Bool) {x : Bool} → x ≡ false → (when b then false else x) ≡ false
    owner true e = refl
    owner false e = e

-- where the tables are ready each message on both circuits is accepted, and
-- IAM where circuit 1 is idle
takes : (s : Standings) → Ready s
    → Takes s page₁ 8 × Takes s page₂ 8 × Takes s pages 8 × Takes s faulty 8 × Takes s mended 8 × Takes s reset 7 × (octet s.rows 1 ≡ 0 → Takes s seize_next 0)
unfolding reply_length
takes s w = (
  accepts s page₁ (asked BlockGroup 0 7) 8 w asks.0 (omega arith) refl refl (omega arith),
  accepts s page₂ (asked BlockGroup 0 7) 8 w asks.1 (omega arith) refl refl (omega arith),
  accepts s pages (asked BlockGroup 0 7) 8 w asks.2 (omega arith) refl refl (omega arith),
  accepts s faulty (asked BlockGroup 1 7) 8 w asks.3 (omega arith) refl refl (omega arith),
  accepts s mended (asked UnblockGroup 1 7) 8 w asks.4 (omega arith) refl refl (omega arith),
  accepts s reset (asked ResetGroup 0 0) 7 w asks.5 (omega arith) refl refl (omega arith),
  λ z. accepts s seize_next (one_ask Seize 1) 0 w asks.6 (omega arith) (ap (λ (r : ℕ). not (eqb r 0)) z) refl (omega arith),
)

-- ---- the samples
idle-ready : Ready all_idle
idle-ready = ready 0 (inl refl)

then_ready : (m : List ℕ) → Ready (by all_idle m)
then_ready m = ready-after all_idle (heard 1 m) idle-ready

-- two pages of one block, one after the other, and one page with the marks of both: all three are
-- accepted, and the one leaves what the two leave (`cgb-united`)
pub pages-merge : Takes all_idle page₁ 8 × Takes (by all_idle page₁) page₂ 8 × Takes all_idle pages 8 × (by all_idle pages ≡ by (by all_idle page₁) page₂)
unfolding mark_of bit_at
pages-merge =
    let ok₁ = (takes all_idle idle-ready).0 in
    let ok₂ = (takes (by all_idle page₁) (then_ready page₁)).1 in
    let a = asked BlockGroup 0 7 in
    let u =
    cgb-united (owned 1) (owned 0) all_idle 1 1 page₁ page₂ pages zeros zeros zeros a a a 8 8 asks.0 asks.1 asks.2
    refl refl refl refl refl refl refl refl refl marks ok₁ ok₂ (omega (arith, room-there)) in
    (ok₁, ok₂, u.0, u.1)
  where
    marks : (i : ℕ) → i ≤ 1 → mark_of pages 7 i ≡ (when mark_of page₁ 7 i then true else mark_of page₂ 7 i)
    marks zero h = refl
    marks (suc zero) h = refl
    marks (suc (suc i)) h = absurd (omega (arith, h))

-- a page that comes again is accepted again, and changes nothing (`cgb-twice`)
pub repeat-merges : Takes all_idle page₁ 8 × Takes (by all_idle page₁) page₁ 8 × (by (by all_idle page₁) page₁ ≡ by all_idle page₁)
repeat-merges =
    let ok = (takes all_idle idle-ready).0 in
    let u = cgb-twice (owned 1) (owned 0) all_idle 1 page₁ zeros zeros (asked BlockGroup 0 7) 8 asks.0 refl ok (omega (arith, room-there)) in
    (ok, u.0, u.1)

-- GRS is accepted after a page and alone, and leaves the same (`grs-after`)
pub reset-swallows : Takes all_idle page₁ 8 × Takes (by all_idle page₁) reset 7 × Takes all_idle reset 7 × (by (by all_idle page₁) reset ≡ by all_idle reset)
reset-swallows =
    let ok = (takes all_idle idle-ready).0 in
    let late = (takes (by all_idle page₁) (then_ready page₁)).5 in
    let alone = (takes all_idle idle-ready).5 in
    let u =
    grs-after (owned 1) (owned 0) all_idle 1 page₁ zeros (asked BlockGroup 0 7) 8 asks.0 ok
    reset (asked ResetGroup 0 0) asks.5 refl (omega arith) (omega arith) zeros zeros 7 7 late alone in
    (ok, late, alone, u)

-- CGB for maintenance and then for hardware, on circuit 0: its row is 6, and neither of the two
-- alone, which are accepted, leaves these rows (`two-kinds-no-one`)
pub two-kinds-happen : Takes all_idle page₁ 8 × Takes (by all_idle page₁) faulty 8 × Takes all_idle faulty 8 × (octet (by (by all_idle page₁) faulty).rows 0 ≡ 6)
    × ((by all_idle page₁).rows ≡ (by (by all_idle page₁) faulty).rows → ⊥) × ((by all_idle faulty).rows ≡ (by (by all_idle page₁) faulty).rows → ⊥)
unfolding mark_of bit_at changed_row blocked_row
two-kinds-happen =
    let ok₁ = (takes all_idle idle-ready).0 in
    let ok₂ = (takes (by all_idle page₁) (then_ready page₁)).3 in
    let ok₃ = (takes all_idle idle-ready).3 in
    let a₁ = asked BlockGroup 0 7 in
    let a₂ = asked BlockGroup 1 7 in
    let there : Named a₁ 0 = (omega arith, omega arith) in
    let two : octet (by all_idle page₁).rows 0 ≡ 2 = row-after (owned 1) (owned 0) all_idle 1 page₁ zeros a₁ 8 asks.0 ok₁ 0 there in
    let six = row-after (owned 1) (owned 0) (by all_idle page₁) 1 faulty zeros a₂ 8 asks.3 ok₂ 0 there ∙ ap (blocked_row 1) two in
    let no_one : (m : List ℕ) (a : Ask) → ask_of m ≡ accepted a → a.act ≡ BlockGroup → Takes all_idle m 8 → (by all_idle m).rows ≡ (by (by all_idle page₁) faulty).rows → ⊥ =
    λ m a e g ok.
    two-kinds-no-one (owned 1) (owned 0) all_idle 1 1 1 page₁ faulty m zeros zeros zeros a₁ a₂ a 8 8 8 0 asks.0 asks.3 e
    refl refl g refl refl there there refl refl refl ok₁ ok₂ ok in
    (ok₁, ok₂, ok₃, six, no_one page₁ a₁ asks.0 refl ok₁, no_one faulty a₂ asks.3 refl ok₃)

-- CGB and then CGU for hardware on circuit 0, which is busy before and idle
-- afterwards (`hardware-ends-busy`)
pub hardware-ends : Takes (standing 1) faulty 8 × Takes (by (standing 1) faulty) mended 8 × (octet (by (by (standing 1) faulty) mended).rows 0 ≡ 0)
unfolding mark_of bit_at
hardware-ends =
    let w = ready 1 (inr (inl refl)) in
    let ok₁ = (takes (standing 1) w).3 in
    let ok₂ = (takes (by (standing 1) faulty) (ready-after (standing 1) (heard 1 faulty) w)).4 in
    let a₁ = asked BlockGroup 1 7 in
    let a₂ = asked UnblockGroup 1 7 in
    let there : Named a₁ 0 = (omega arith, omega arith) in
    let u =
    hardware-ends-busy (owned 1) (owned 0) (standing 1) 1 1 faulty mended zeros zeros a₁ a₂ 8 8 0 asks.3 asks.4
    refl refl refl refl there there refl refl refl ok₁ ok₂ in
    (ok₁, ok₂, u)

-- the desk blocks circuit 0
abbrev desked : BoardAfter
desked = desk_board_of all_idle.rows all_idle.totals 0 true zeros

-- that is accepted, and so is GRS after it: the row of circuit 0 is 8 (`desk-not-swallowed`)
pub desk-stays : (desked.answer ≡ accepted 3) × Takes (left_in desked) reset 7 × (octet (by (left_in desked) reset).rows 0 ≡ 8)
unfolding desk_of desk_grant is_legal
desk-stays =
    let set : desked.answer ≡ accepted 3 = (desk-board-acts all_idle.rows all_idle.totals 0 true zeros idle-ready.1).0 in
    let ok = (takes (left_in desked) (ready-after all_idle (ours 0 true) idle-ready)).5 in
    (set, ok, desk-not-swallowed (owned 1) (owned 0) all_idle 0 zeros 3 1 reset zeros (asked ResetGroup 0 0) 7 set asks.5 refl (omega arith, omega arith) ok)

-- GRS on circuits 0 and 1 and IAM on circuit 1 are accepted in either order, and the two orders
-- leave different rows (`group-touches`)
pub group-touches-so : Takes all_idle reset 7 × Takes (by all_idle reset) seize_next 0 × Takes all_idle seize_next 0 × Takes (by all_idle seize_next) reset 7
    × ((by (by all_idle reset) seize_next).rows ≡ (by (by all_idle seize_next) reset).rows → ⊥)
unfolding mark_of changed_row
group-touches-so =
    let y = asked ResetGroup 0 0 in
    let there : Named y 1 = (omega arith, omega arith) in
    let ok₁ = (takes all_idle idle-ready).5 in
    let ok₂ = (takes (by all_idle reset) (then_ready reset)).6 (row-after (owned 1) (owned 0) all_idle 1 reset zeros y 7 asks.5 ok₁ 1 there) in
    let ok₃ = (takes all_idle idle-ready).6 refl in
    let ok₄ = (takes (by all_idle seize_next) (then_ready seize_next)).5 in
    let u = group-touches (owned 1) (owned 0) all_idle 1 1 reset seize_next zeros zeros y (one_ask Seize 1) 7 0 0 7 asks.5 refl asks.6 refl there ok₁ ok₂ ok₃ ok₄ in
    (ok₁, ok₂, ok₃, ok₄, u)
