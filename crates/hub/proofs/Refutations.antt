-- Wrong orders of checks and stores, each refuted on one call: what the wrong order leaves is not
-- what the definition says.
use Prim.Native.Nat.{ℕ, suc, ◌+◌}
use mathlib.Core.Path.{◌≡◌, refl, sym, ◌∙◌, ap}
use mathlib.Core.Bool.{Bool, true, false}
use mathlib.Core.List.{List, [], ◌∷◌}
use mathlib.Core.Logic.{⊎_elim}
use native.Mathlib.Omega.{arith}
use borrow.Author.Tests.{eqb-true, eq-eqb}
use lib.Dec.{ltb, eqb}
use lib.ListN.{length, replicate, length-replicate, get_or-replicate}
use Rattle.std.specs.Prelude.{is_some}
use Rattle.octets.specs.Octet.{octet}
use Rattle.octets.specs.Choice.{when◌then◌else◌}
use Rattle.octets.specs.Answer.{Answer, accepted, refused, ◌then◌}
use Rattle.octets.proofs.Answer.{refused-same, refused-accepted}
use Rattle.parts.specs.Spans.{span}
use Rattle.layout.specs.Container.{variable_at_lem, optional_at_lem, variable_slot_lem, optional_slot_lem, container_of, parts_of}
use Rattle.parts.specs.Overlap.{shares_of, judged, held}
use Rattle.isup.specs.Table.{shape_of}
use Rattle.isup.specs.Read.{read_of}
use Rattle.asks.specs.declared.Ask.{Ask}
use Rattle.rows.specs.declared.Act.TheVariants.{Seize, Block, Query}
use Rattle.rows.specs.Rows.{is_legal, blocked_row, changed_row, local_row}
use Rattle.isup.specs.Types.{IAM, BLO, CQM}
use Rattle.asks.specs.Types.{act_for}
use Rattle.asks.specs.Asks.{one_ask, range_ask, broken_range, asked_in, ask_of, mark_of}
use Rattle.arrival.specs.Calls.{Calls, Apart, Merged, answers_of, calls_of}
use Rattle.arrival.proofs.Isolation.{merged-so}
use Rattle.rights.specs.Tables.{Tables, tables, sized}
use Rattle.rights.specs.Rights.{may_help, first_not, first_foreign_lem, first_illegal_lem}
use Rattle.octets.specs.Applied.{applied}
use Rattle.hub.specs.Rows.{rows_after}
use Rattle.hub.specs.Replies.{status_in, reply_of}
use Rattle.hub.specs.Desk.{rows_blocked, desk_of}
use Rattle.hub.specs.Arrival.{Event, heard, ours, Call, party_of, Reply, replied, holds_of, hub}
use Rattle.rights.specs.Permits.{is_taken, is_unhelpable, permitted_of}
use Rattle.hub.specs.Acts.{allowed_of, grant_of, After, after, carried_out, act_of}
use Rattle.hub.proofs.Given.{grant-sized}
use Rattle.hub.proofs.Called.{act-keeps}
use Rattle.hub.proofs.Desk.{desk-keeps}
use Rattle.hub.proofs.Orders.{holds-is}

-- BLO for circuit 0
abbrev pub block : List ℕ
block = 0 ∷ 0 ∷ BLO ∷ []

pub block-asks : ask_of block ≡ accepted (one_ask Block 0)
unfolding ask_of asked_in act_for read_of parts_of container_of variable_slot_lem optional_slot_lem judged shares_of shape_of held
block-asks = refl

-- every row 0, but for the first
abbrev pub rows : ℕ → List ℕ
rows first = first ∷ replicate 4095 0

-- every circuit the sender's
abbrev pub owned : ℕ → List ℕ
owned sender = sender ∷ replicate 4095 sender

-- and no helpers
abbrev unhelped : List ℕ
unhelped = owned 0

-- such tables
abbrev lent : ℕ → ℕ → Tables
lent first sender = tables (rows first) (owned sender) unhelped

pub rows-sized : (first : ℕ) → length (rows first) ≡ 4096
rows-sized first = ap suc (length-replicate {A = ℕ} 4095 0)

pub owned-sized : (sender : ℕ) → length (owned sender) ≡ 4096
owned-sized sender = ap suc (length-replicate {A = ℕ} 4095 sender)

-- ---- rows marked before 13 is decided: the rows change, and then the buffer is found too short
abbrev marked_first : Tables → ℕ → List ℕ → List ℕ → Answer Ask → After
marked_first T sender m buffer (refused n at) = after (refused n 0) T.states buffer
marked_first T sender m buffer (accepted a) =
    when ltb (length buffer) (length (reply_of T.states m a)) then after (refused 13 0) (rows_after m a T.states) buffer
    else carried_out T m buffer (accepted a)

block-granted : grant_of (lent 0 1) 1 block 268 ≡ accepted (one_ask Block 0)
unfolding allowed_of permitted_of is_unhelpable may_help first_not is_legal reply_of
block-granted =
    grant-sized (lent 0 1) 1 block 268 (rows-sized 0) (owned-sized 1) (owned-sized 0)
    ∙ ap (λ z. z then allowed_of (lent 0 1) 1 block 268) block-asks

-- sender 1 owns every circuit, every row is 0, and the buffer is empty: the wrong order leaves
-- circuit 0 blocked, and 13 keeps every row
pub marked-before-13 : marked_first (lent 0 1) 1 block [] (grant_of (lent 0 1) 1 block 268) ≡ act_of (lent 0 1) 1 block [] → ⊥
unfolding applied changed_row blocked_row mark_of reply_of
marked-before-13 e =
    let w : after (refused 13 0) (rows_after block (one_ask Block 0) (rows 0)) [] ≡ act_of (lent 0 1) 1 block [] = ap (marked_first (lent 0 1) 1 block []) (sym block-granted) ∙ e in
    let k = (act-keeps (lent 0 1) 1 block [] 13 0 (sym (ap (λ (r : After). r.answer) w))).0 in
    let z : ◌≡◌ {A = ℕ} 2 0 = ap (λ (l : List ℕ). octet l 0) (ap (λ (r : After). r.states) w ∙ k) in
    omega arith

-- ---- the same of a desk call: the row is blocked, and then the buffer is found too short
pub desk-marked-before-13 : after (refused 13 0) (rows_blocked true 0 (rows 0)) [] ≡ desk_of (rows 0) 0 true [] → ⊥
unfolding applied local_row
desk-marked-before-13 e =
    let k = (desk-keeps (rows 0) 0 true [] 13 0 (sym (ap (λ (r : After). r.answer) e))).0 in
    let z : ◌≡◌ {A = ℕ} 8 0 = ap (λ (l : List ℕ). octet l 0) (ap (λ (r : After). r.states) e ∙ k) in
    omega arith

-- ---- a hub that acknowledges and touches nothing: BLO for circuit 0 leaves its row blocked, and not as it was
pub touches-nothing-refuted : rows_after block (one_ask Block 0) (rows 0) ≡ rows 0 → ⊥
unfolding applied changed_row blocked_row mark_of
touches-nothing-refuted e =
    let z : ◌≡◌ {A = ℕ} 2 0 = ap (λ (l : List ℕ). octet l 0) e in
    omega arith

-- ---- 20 looked at before 19
abbrev legal_first : Tables → ℕ → List ℕ → ℕ → Ask → Answer Ask
legal_first T sender m room a =
    when is_some (first_illegal_lem T.states a.circuit (a.range + 1)) then refused 20 0
    else when is_some (first_foreign_lem T.owners T.helpers sender a.circuit (a.range + 1)) then refused 19 0
    else when is_taken T.states a.act a.circuit then refused 21 0
    else when ltb room (length (reply_of T.states m a)) then refused 13 0
    else accepted a

-- a stranger's row is not legal: the wrong order tells the sender so, and the definition gives 19
pub illegal-before-foreign : (ask_of block then legal_first (lent 5 2) 1 block 268) ≡ grant_of (lent 5 2) 1 block 268 → ⊥
unfolding allowed_of permitted_of is_unhelpable may_help first_not is_legal
illegal-before-foreign e =
    let r : refused 20 0 ≡ refused 19 0 =
    ap (λ z. z then legal_first (lent 5 2) 1 block 268) (sym block-asks)
    ∙ e
    ∙ grant-sized (lent 5 2) 1 block 268 (rows-sized 5) (owned-sized 2) (owned-sized 0)
    ∙ ap (λ z. z then allowed_of (lent 5 2) 1 block 268) block-asks in
    let z : ◌≡◌ {A = ℕ} 20 19 = (refused-same {A = Ask} r).0 in
    omega arith

-- ---- 20 not looked at
abbrev unlooked : Tables → ℕ → List ℕ → ℕ → Ask → Answer Ask
unlooked T sender m room a =
    when is_some (first_foreign_lem T.owners T.helpers sender a.circuit (a.range + 1)) then refused 19 0
    else when is_taken T.states a.act a.circuit then refused 21 0
    else when ltb room (length (reply_of T.states m a)) then refused 13 0
    else accepted a

-- CQM for circuit 0
abbrev query : List ℕ
query = 0 ∷ 0 ∷ CQM ∷ 1 ∷ 1 ∷ 0 ∷ []

query-asks : ask_of query ≡ accepted (range_ask query Query 0 (span 5 6))
unfolding ask_of asked_in act_for broken_range read_of parts_of container_of variable_slot_lem variable_at_lem optional_slot_lem judged shares_of shape_of held
query-asks = refl

-- the sender's row is not legal: a hub that does not look answers with a state that no circuit has,
-- and the definition gives 20
pub illegal-untold : (ask_of query then unlooked (lent 5 1) 1 query 268) ≡ grant_of (lent 5 1) 1 query 268 → ⊥
unfolding allowed_of permitted_of is_unhelpable may_help first_not is_legal reply_of status_in
illegal-untold e =
    let r : accepted (range_ask query Query 0 (span 5 6)) ≡ refused 20 0 =
    ap (λ z. z then unlooked (lent 5 1) 1 query 268) (sym query-asks)
    ∙ e
    ∙ grant-sized (lent 5 1) 1 query 268 (rows-sized 5) (owned-sized 1) (owned-sized 0)
    ∙ ap (λ z. z then allowed_of (lent 5 1) 1 query 268) query-asks in
    refused-accepted (sym r)

-- ---- hubs that look at a stranger's row before they refuse
-- the hub's calls with another test of what is allowed
abbrev grant_by : (Tables → ℕ → List ℕ → ℕ → Ask → Answer Ask) → Tables → ℕ → List ℕ → ℕ → Answer Ask
grant_by allowed T sender m room = when sized T then (ask_of m then allowed T sender m room) else refused 16 0

abbrev act_by : (Tables → ℕ → List ℕ → ℕ → Ask → Answer Ask) → Tables → ℕ → List ℕ → List ℕ → After
act_by allowed T sender m buffer = carried_out T m buffer (grant_by allowed T sender m (length buffer))

-- what such a hub does
abbrev done_in : (Tables → ℕ → List ℕ → ℕ → Ask → Answer Ask) → List ℕ → Event → List ℕ → List ℕ → After
done_in allowed owners (heard sender message) buffer states = act_by allowed (tables states owners unhelped) sender message buffer
done_in allowed owners (ours circuit set) buffer states = desk_of states circuit set buffer

abbrev hub_by : (Tables → ℕ → List ℕ → ℕ → Ask → Answer Ask) → List ℕ → Calls
hub_by allowed owners =
    record {
      State = List ℕ;
      Row = ℕ;
      Call = Call;
      Reply = Reply;
      sizes = λ s. length s ∷ [];
      row = λ s i. octet s i;
      party = λ c. party_of owners c.asks;
      holds = holds_of owners unhelped;
      answer = λ c s. replied (done_in allowed owners c.asks c.buffer s);
      after = λ c s. (done_in allowed owners c.asks c.buffer s).states;
    }

-- what such a hub grants on tables of the right length
granted-by : (allowed : Tables → ℕ → List ℕ → ℕ → Ask → Answer Ask) (T : Tables) (sender : ℕ) (m : List ℕ) (room : ℕ) (a : Ask)
    → length T.states ≡ 4096 → length T.owners ≡ 4096 → length T.helpers ≡ 4096 → ask_of m ≡ accepted a → grant_by allowed T sender m room ≡ allowed T sender m room a
granted-by allowed T sender m room a p q h e =
    (rw (eq-eqb _ _ p, eq-eqb _ _ q, eq-eqb _ _ h) refl) ∙ ap (λ (r : Answer Ask). r then allowed T sender m room) e

-- sender 1 holds no row where all are sender 2's and nobody helps
holds-none : (i : ℕ) → holds_of (owned 2) unhelped 1 i ≡ true → ⊥
holds-none i e =
    let w = holds-is (owned 2) unhelped 1 i e in
    ⊎_elim
    (λ (o : octet (owned 2) i ≡ 1). let z = sym (get_or-replicate 4096 i 2 0 (omega (arith, w.0))) ∙ o in omega (arith, z))
    (λ (o : (octet unhelped i ≡ 1) × (◌≡◌ {A = ℕ} 1 0 → ⊥)). let z = sym (get_or-replicate 4096 i 0 0 (omega (arith, w.0))) ∙ o.0 in omega (arith, z))
    w.1

-- 20 looked at before 19: sender 1, who owns nothing, is told whether a stranger's row is legal. So
-- what a call answers does not depend on its own rows alone
pub sees-a-stranger : Apart (hub_by legal_first (owned 2)) → ⊥
unfolding first_not is_legal
sees-a-stranger A =
    let c : Call = record { asks = heard 1 block; buffer = [] } in
    let y = (A.sees c (rows 0) (rows 5) (ap (λ (n : ℕ). n ∷ []) (rows-sized 0 ∙ sym (rows-sized 5)), λ i h. absurd (holds-none i h))).0 in
    let p = granted-by legal_first (lent 0 2) 1 block 0 (one_ask Block 0) (rows-sized 0) (owned-sized 2) (owned-sized 0) block-asks in
    let q = granted-by legal_first (lent 5 2) 1 block 0 (one_ask Block 0) (rows-sized 5) (owned-sized 2) (owned-sized 0) block-asks in
    let r : refused 19 0 ≡ refused 20 0 =
    ap (λ (g : Answer Ask). (carried_out (lent 0 2) block [] g).answer) (sym p)
    ∙ ap (λ (x : Reply). x.answer) y
    ∙ ap (λ (g : Answer Ask). (carried_out (lent 5 2) block [] g).answer) q in
    let z : ◌≡◌ {A = ℕ} 19 20 = (refused-same {A = ℕ} r).0 in
    omega arith

-- ---- 21 looked at before 19: the answer depends on the merge
abbrev taken_first : Tables → ℕ → List ℕ → ℕ → Ask → Answer Ask
taken_first T sender m room a =
    when is_taken T.states a.act a.circuit then refused 21 0
    else allowed_of T sender m room a

-- IAM for circuit 0, with an empty called number and no optional part
abbrev pub seize : List ℕ
seize = 0 ∷ 0 ∷ IAM ∷ 0 ∷ 0 ∷ 0 ∷ 0 ∷ 0 ∷ 2 ∷ 0 ∷ 0 ∷ []

seize-asks : ask_of seize ≡ accepted (one_ask Seize 0)
unfolding ask_of asked_in act_for read_of parts_of container_of variable_slot_lem variable_at_lem optional_slot_lem optional_at_lem judged shares_of shape_of held
seize-asks = refl

-- both senders seize circuit 0, which is sender 2's
abbrev pub seized_by : ℕ → Call
seized_by sender = record { asks = heard sender seize; buffer = [] }

abbrev hurried : Calls
hurried = hub_by taken_first (owned 2)

abbrev stranger_first : List Call
stranger_first = seized_by 1 ∷ seized_by 2 ∷ []

abbrev owner_first : List Call
owner_first = seized_by 2 ∷ seized_by 1 ∷ []

-- two merges of the same lists, in which sender 1 has different answers: 19 where its call comes
-- first, and 21 where it comes after sender 2's
pub depends-on-the-merge : (ls : ℕ → List Call) × Merged hurried stranger_first ls × Merged hurried owner_first ls
    × (answers_of hurried 1 stranger_first (rows 0) ≡ answers_of hurried 1 owner_first (rows 0) → ⊥)
unfolding calls_of answers_of allowed_of permitted_of is_unhelpable may_help first_not is_legal applied changed_row mark_of reply_of
depends-on-the-merge = (
  (λ q. calls_of hurried q stranger_first),
  merged-so hurried stranger_first _ (λ q. refl),
  merged-so hurried owner_first _ (λ q. swapped q (eqb 1 q) (eqb 2 q) refl refl),
  λ e.
      let p = granted-by taken_first (lent 0 2) 1 seize 0 (one_ask Seize 0) (rows-sized 0) (owned-sized 2) (owned-sized 0) seize-asks in
      let o = granted-by taken_first (lent 0 2) 2 seize 0 (one_ask Seize 0) (rows-sized 0) (owned-sized 2) (owned-sized 0) seize-asks in
      let s : hurried.after (seized_by 2) (rows 0) ≡ rows 1 = ap (λ (g : Answer Ask). (carried_out (lent 0 2) seize [] g).states) o in
      let q = granted-by taken_first (lent 1 2) 1 seize 0 (one_ask Seize 0) (rows-sized 1) (owned-sized 2) (owned-sized 0) seize-asks in
      let h : hurried.answer (seized_by 1) (rows 0) ≡ hurried.answer (seized_by 1) (hurried.after (seized_by 2) (rows 0)) = first-same e in
      let r : refused 19 0 ≡ refused 21 0 =
      ap (λ (g : Answer Ask). (carried_out (lent 0 2) seize [] g).answer) (sym p)
      ∙ ap (λ (x : Reply). x.answer) (h ∙ ap (λ (l : List ℕ). hurried.answer (seized_by 1) l) s)
      ∙ ap (λ (g : Answer Ask). (carried_out (lent 1 2) seize [] g).answer) q in
      let z : ◌≡◌ {A = ℕ} 19 21 = (refused-same {A = ℕ} r).0 in
      omega arith,
)
  where
    first-same : {a b : Reply} {l k : List Reply} → a ∷ l ≡ b ∷ k → a ≡ b
    first-same e = cc

    swapped : (q : ℕ) (b d : Bool) → eqb 1 q ≡ b → eqb 2 q ≡ d
        → (when d then seized_by 2 ∷ (when b then seized_by 1 ∷ [] else []) else when b then seized_by 1 ∷ [] else [])
        ≡ (when b then seized_by 1 ∷ (when d then seized_by 2 ∷ [] else []) else when d then seized_by 2 ∷ [] else [])
    swapped q true true e f = let z : ◌≡◌ {A = ℕ} 1 2 = eqb-true 1 q e ∙ sym (eqb-true 2 q f) in absurd (omega arith)
    swapped q true false e f = refl
    swapped q false true e f = refl
    swapped q false false e f = refl

-- ---- 22 looked at before 19
abbrev helped_first : Tables → ℕ → List ℕ → ℕ → Ask → Answer Ask
helped_first T sender m room a =
    when is_unhelpable T sender a then refused 22 0
    else when is_some (first_foreign_lem T.owners T.helpers sender a.circuit (a.range + 1)) then refused 19 0
    else allowed_of T sender m room a

-- IAM on a stranger's circuit: the wrong order speaks of a help that the sender
-- does not give, and the definition gives 19
pub helped-before-foreign : (ask_of seize then helped_first (lent 0 2) 1 seize 0) ≡ grant_of (lent 0 2) 1 seize 0 → ⊥
unfolding allowed_of permitted_of is_unhelpable may_help first_not
helped-before-foreign e =
    let r : refused 22 0 ≡ refused 19 0 =
    ap (λ z. z then helped_first (lent 0 2) 1 seize 0) (sym seize-asks)
    ∙ e
    ∙ grant-sized (lent 0 2) 1 seize 0 (rows-sized 0) (owned-sized 2) (owned-sized 0)
    ∙ ap (λ z. z then allowed_of (lent 0 2) 1 seize 0) seize-asks in
    let z : ◌≡◌ {A = ℕ} 22 19 = (refused-same {A = Ask} r).0 in
    omega arith

-- ---- demand 3 where an owner and a helper have a right on one circuit: the condition is needed
-- sender 2 owns every circuit, and sender 1 helps with each
abbrev helped_by1 : ℕ → Tables
helped_by1 first = tables (rows first) (owned 2) (owned 1)

-- the helper blocks circuit 0, and the owner seizes it
abbrev pub helper_blocks : Call
helper_blocks = record { asks = heard 1 block; buffer = 0 ∷ 0 ∷ 0 ∷ [] }

abbrev pub shared : Calls
shared = hub (owned 2) (owned 1)

block-helped : grant_of (helped_by1 0) 1 block 3 ≡ accepted (one_ask Block 0)
unfolding allowed_of permitted_of is_unhelpable may_help first_not is_legal reply_of
block-helped =
    grant-sized (helped_by1 0) 1 block 3 (rows-sized 0) (owned-sized 2) (owned-sized 1)
    ∙ ap (λ z. z then allowed_of (helped_by1 0) 1 block 3) block-asks

seize-granted : grant_of (helped_by1 0) 2 seize 0 ≡ accepted (one_ask Seize 0)
unfolding allowed_of permitted_of is_unhelpable may_help first_not is_legal reply_of
seize-granted =
    grant-sized (helped_by1 0) 2 seize 0 (rows-sized 0) (owned-sized 2) (owned-sized 1)
    ∙ ap (λ z. z then allowed_of (helped_by1 0) 2 seize 0) seize-asks

seize-blocked : grant_of (helped_by1 2) 2 seize 0 ≡ refused 21 0
unfolding allowed_of permitted_of is_unhelpable may_help first_not is_legal reply_of
seize-blocked =
    grant-sized (helped_by1 2) 2 seize 0 (rows-sized 2) (owned-sized 2) (owned-sized 1)
    ∙ ap (λ z. z then allowed_of (helped_by1 2) 2 seize 0) seize-asks

-- the owner's IAM is answered otherwise after the helper's BLO on the same circuit than before it
pub blocked-then-seized : shared.answer (seized_by 2) (shared.after helper_blocks (rows 0)) ≡ shared.answer (seized_by 2) (rows 0) → ⊥
unfolding act_of applied changed_row blocked_row mark_of reply_of
blocked-then-seized h =
    let s : shared.after helper_blocks (rows 0) ≡ rows 2 = ap (λ (g : Answer Ask). (carried_out (helped_by1 0) block (0 ∷ 0 ∷ 0 ∷ []) g).states) block-helped in
    let r : ◌≡◌ {A = Answer ℕ} (refused 21 0) (accepted 0) =
    ap (λ (g : Answer Ask). (carried_out (helped_by1 2) seize [] g).answer) (sym seize-blocked)
    ∙ ap (λ (x : Reply). x.answer) (sym (ap (λ (l : List ℕ). shared.answer (seized_by 2) l) s) ∙ h)
    ∙ ap (λ (g : Answer Ask). (carried_out (helped_by1 0) seize [] g).answer) seize-granted in
    refused-accepted r

-- two merges of the same lists, in which the owner has different answers: 21 where the helper's
-- block comes first, and none where it comes after
pub helpers-merge-matters : (ls : ℕ → List Call) × Merged shared (helper_blocks ∷ seized_by 2 ∷ []) ls × Merged shared (seized_by 2 ∷ helper_blocks ∷ []) ls
    × (answers_of shared 2 (helper_blocks ∷ seized_by 2 ∷ []) (rows 0) ≡ answers_of shared 2 (seized_by 2 ∷ helper_blocks ∷ []) (rows 0) → ⊥)
unfolding calls_of answers_of
helpers-merge-matters = (
  (λ q. calls_of shared q (helper_blocks ∷ seized_by 2 ∷ [])),
  merged-so shared (helper_blocks ∷ seized_by 2 ∷ []) _ (λ q. refl),
  merged-so shared (seized_by 2 ∷ helper_blocks ∷ []) _ (λ q. other_way q (eqb 1 q) (eqb 2 q) refl refl),
  λ e. blocked-then-seized (first_of e),
)
  where
    first_of : {a b : Reply} {l k : List Reply} → a ∷ l ≡ b ∷ k → a ≡ b
    first_of e = cc

    other_way : (q : ℕ) (b d : Bool) → eqb 1 q ≡ b → eqb 2 q ≡ d
        → (when d then seized_by 2 ∷ (when b then helper_blocks ∷ [] else []) else when b then helper_blocks ∷ [] else [])
        ≡ (when b then helper_blocks ∷ (when d then seized_by 2 ∷ [] else []) else when d then seized_by 2 ∷ [] else [])
    other_way q true true e f = let z : ◌≡◌ {A = ℕ} 1 2 = eqb-true 1 q e ∙ sym (eqb-true 2 q f) in absurd (omega arith)
    other_way q true false e f = refl
    other_way q false true e f = refl
    other_way q false false e f = refl

-- ---- 20 looked at before 22
abbrev legal_before_helped : Tables → ℕ → List ℕ → ℕ → Ask → Answer Ask
legal_before_helped T sender m room a =
    when is_some (first_foreign_lem T.owners T.helpers sender a.circuit (a.range + 1)) then refused 19 0
    else when is_some (first_illegal_lem T.states a.circuit (a.range + 1)) then refused 20 0
    else when is_unhelpable T sender a then refused 22 0
    else allowed_of T sender m room a

-- the helper seizes a circuit whose row is not legal: the wrong order gives
-- 20, and the definition 22
pub illegal-before-helped : (ask_of seize then legal_before_helped (helped_by1 5) 1 seize 0) ≡ grant_of (helped_by1 5) 1 seize 0 → ⊥
unfolding allowed_of permitted_of is_unhelpable may_help first_not is_legal
illegal-before-helped e =
    let r : refused 20 0 ≡ refused 22 0 =
    ap (λ z. z then legal_before_helped (helped_by1 5) 1 seize 0) (sym seize-asks)
    ∙ e
    ∙ grant-sized (helped_by1 5) 1 seize 0 (rows-sized 5) (owned-sized 2) (owned-sized 1)
    ∙ ap (λ z. z then allowed_of (helped_by1 5) 1 seize 0) seize-asks in
    let z : ◌≡◌ {A = ℕ} 20 22 = (refused-same {A = Ask} r).0 in
    omega arith
