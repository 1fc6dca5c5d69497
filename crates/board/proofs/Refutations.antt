-- Wrong ways of keeping the totals, each refuted.
use Prim.Native.Nat.{ℕ, ◌+◌, ◌/◌}
use mathlib.Core.Path.{◌≡◌, refl, sym, ◌∙◌, ap}
use mathlib.Core.Bool.{true}
use mathlib.Core.List.{List, [], ◌∷◌}
use native.Mathlib.Omega.{arith}
use borrow.Author.Tests.{eq-eqb}
use lib.Dec.{eqb}
use lib.ListN.{length, replicate}
use Rattle.octets.specs.Octet.{octet}
use Rattle.octets.specs.Answer.{accepted, refused}
use Rattle.octets.proofs.Answer.{accepted-same}
use Rattle.totals.specs.Blocks.{block_count_lem, recounted}
use Rattle.totals.proofs.Recounted.{recounted-named}
use Rattle.octets.specs.Sum.{total}
use Rattle.rights.specs.Tables.{Tables, tables}
use Rattle.layout.specs.Container.{variable_slot_lem, optional_slot_lem, container_of, parts_of}
use Rattle.parts.specs.Overlap.{shares_of, judged, held}
use Rattle.isup.specs.Table.{shape_of}
use Rattle.isup.specs.Read.{read_of}
use Rattle.isup.specs.Types.{BLO}
use Rattle.rows.specs.declared.Act.TheVariants.{Block}
use Rattle.asks.specs.declared.Ask.{Ask}
use Rattle.asks.specs.Types.{act_for}
use Rattle.asks.specs.Asks.{one_ask, asked_in, ask_of}
use Rattle.rights.specs.Names.{Names}
use Rattle.hub.specs.Arrival.{heard, Reply}
use Rattle.hub.proofs.Refutations.{block, block-asks, rows, owned, seized_by, helper_blocks, shared, blocked-then-seized}
use Rattle.board.specs.Board.{BoardAfter, board_after, board_of}
use Rattle.board.specs.Arrival.{Standings, board}
use Rattle.board.proofs.Kept.{named-totals-right, board-keeps}
use Rattle.board.proofs.Orders.{totals-length, rows_left, answer-left, buffer-left}
use Rattle.board.proofs.Commute.{calls-commute}

-- 64 totals, of which the first says 1
abbrev one_busy : List ℕ
one_busy = 1 ∷ replicate 63 0

-- a refusal that counts anew: with no rows at all the call is 16, and the wrong
-- total of the first block has to stay
pub refusal-recounts-refuted : board_after (refused 16 0) [] (recounted [] 0 0 one_busy) [] ≡ board_of (tables [] [] []) one_busy 0 [] [] → ⊥
unfolding total
refusal-recounts-refuted e =
    let a : (board_of (tables [] [] []) one_busy 0 [] []).answer ≡ refused 16 0 = sym (ap (λ (x : BoardAfter). x.answer) e) in
    let k = (board-keeps (tables [] [] []) one_busy 0 [] [] 16 0 a).1 in
    let c : octet (recounted [] 0 0 one_busy) 0 ≡ 0 = recounted-named [] 0 0 one_busy 0 (omega arith) (omega arith) (omega arith) in
    let z : ◌≡◌ {A = ℕ} 0 1 = sym c ∙ ap (λ (x : BoardAfter). octet x.totals 0) e ∙ ap (λ (l : List ℕ). octet l 0) k in
    omega arith

-- a total that is stepped by one and not counted: it keeps a wrong total wrong
pub stepped-refuted : (T : Tables) (totals : List ℕ) (sender : ℕ) (m buffer : List ℕ) (n : ℕ) → (board_of T totals sender m buffer).answer ≡ accepted n → (c : ℕ) → Names m c
    → (octet totals (c / 64) + 1 ≡ block_count_lem (board_of T totals sender m buffer).states (c / 64) → ⊥) → octet (board_of T totals sender m buffer).totals (c / 64) ≡ octet totals (c / 64) + 1 → ⊥
stepped-refuted T totals sender m buffer n e c w wrong s = wrong (sym s ∙ named-totals-right T totals sender m buffer n e c w)

-- ---- two calls on one circuit: the order matters, so the condition of `calls-commute` is needed
-- every circuit idle but for circuit 0, which has that row; the totals count
-- the busy ones where it is 0 or 1
abbrev pub standing : ℕ → Standings
standing first = record { rows = rows first; totals = first ∷ replicate 63 0 }

-- the rows and the totals, all 0
abbrev pub all_idle : Standings
all_idle = standing 0

-- a helper's BLO and the owner's IAM on circuit 0: after the BLO the IAM has another answer
pub touching-matters : (board (owned 2) (owned 1)).answer (seized_by 2) ((board (owned 2) (owned 1)).after helper_blocks all_idle) ≡ (board (owned 2) (owned 1)).answer (seized_by 2) all_idle → ⊥
touching-matters e =
    let n : eqb (length (replicate {A = ℕ} 64 0)) 64 ≡ true = refl in
    let t = (board (owned 2) (owned 1)).after helper_blocks all_idle in
    let m : eqb (length t.totals) 64 ≡ true = eq-eqb _ _ (totals-length (owned 2) (owned 1) helper_blocks.asks helper_blocks.buffer all_idle) in
    let r : t.rows ≡ shared.after helper_blocks (rows 0) = rows_left (owned 2) (owned 1) helper_blocks.asks helper_blocks.buffer all_idle true n in
    let a = answer-left (owned 2) (owned 1) (seized_by 2).asks (seized_by 2).buffer t true m in
    let b = buffer-left (owned 2) (owned 1) (seized_by 2).asks (seized_by 2).buffer t true m in
    let c = answer-left (owned 2) (owned 1) (seized_by 2).asks (seized_by 2).buffer all_idle true n in
    let d = buffer-left (owned 2) (owned 1) (seized_by 2).asks (seized_by 2).buffer all_idle true n in
    let f : shared.answer (seized_by 2) t.rows ≡ shared.answer (seized_by 2) (rows 0) =
    λ i. record {
      answer = (sym a ∙ ap (λ (x : Reply). x.answer) e ∙ c) i;
      buffer = (sym b ∙ ap (λ (x : Reply). x.buffer) e ∙ d) i;
    } in
    blocked-then-seized (ap (λ (l : List ℕ). shared.answer (seized_by 2) l) (sym r) ∙ f)

-- ---- sharing a block of totals is no obstacle: BLO on circuit 0 and BLO on circuit 1, from anybody, on any tables
-- BLO for circuit 1
abbrev next : List ℕ
next = 1 ∷ 0 ∷ BLO ∷ []

next-asks : ask_of next ≡ accepted (one_ask Block 1)
unfolding ask_of asked_in act_for read_of parts_of container_of variable_slot_lem optional_slot_lem judged shares_of shape_of held
next-asks = refl

pub one-block-two-calls : (owners helpers : List ℕ) (s : Standings) (p q : ℕ) (b e : List ℕ)
    → (board owners helpers).after (record { asks = heard q next; buffer = e }) ((board owners helpers).after (record { asks = heard p block; buffer = b }) s)
    ≡ (board owners helpers).after (record { asks = heard p block; buffer = b }) ((board owners helpers).after (record { asks = heard q next; buffer = e }) s)
one-block-two-calls owners helpers s p q b e =
    (calls-commute owners helpers s (record { asks = heard p block; buffer = b }) (record { asks = heard q next; buffer = e })
    (λ i w v.
    let x : w.4.0 ≡ one_ask Block 0 = accepted-same (sym w.4.1 ∙ block-asks) in
    let y : v.4.0 ≡ one_ask Block 1 = accepted-same (sym v.4.1 ∙ next-asks) in
    omega (arith, w.4.2.1, ap (λ (a : Ask). a.circuit) x, ap (λ (a : Ask). a.range) x, v.4.2.0, ap (λ (a : Ask). a.circuit) y))).0
