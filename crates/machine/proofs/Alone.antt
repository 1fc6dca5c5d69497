-- Demand 3 for the customer who checks: a sender's four numbers are those of the book with the
-- other senders' messages left out.
-- A message of length 0, or of sender 0, is refused and changes nothing.
use Prim.Native.Nat.{ℕ, zero, suc, ◌+◌, ◌≤◌}
use mathlib.Core.Path.{◌≡◌, refl, sym, ◌∙◌, ap}
use mathlib.Core.Bool.{Bool, true, false, not}
use mathlib.Core.List.{List, [], ◌∷◌}
use mathlib.Core.Logic.{◌⊎◌, inl, ⊎_elim}
use native.Mathlib.Omega.{arith}
use native.Mathlib.Nat.{zero-add}
use borrow.Author.Tests.{eqb-true}
use lib.Dec.{eqb}
use lib.ListN.{length, replicate}
use Rattle.octets.specs.Octet.{octet}
use Rattle.octets.specs.Choice.{when◌then◌else◌}
use Rattle.octets.specs.Answer.{accepted, refused, ◌then◌}
use Rattle.octets.proofs.Octet.{zero-at}
use Rattle.layout.specs.Container.{parts_of}
use Rattle.isup.specs.Read.{read_of}
use Rattle.asks.specs.Asks.{ask_of}
use Rattle.arrival.specs.Calls.{state_after, answers_of, answers, calls_of}
use Rattle.rights.specs.Tables.{tables, sized}
use Rattle.hub.specs.Acts.{carried_out, allowed_of, grant_of, act_of}
use Rattle.hub.specs.Arrival.{heard, Call, Reply, hub}
use Rattle.hub.proofs.Called.{answer-or, act-keeps, accepted-sender}
use Rattle.hub.proofs.Orders.{no-helpers, party-answers-alone, owned-rows-end-alone}
use Rattle.book.specs.Book.{Recorded, Book, AllEntries, Good}
use Rattle.day.specs.Hub.{Rows, at_first_lem, busy_at_lem, Heard, heard_as, is_accepted, heard_by, unhelped, heard_of}
use Rattle.tallies.specs.declared.Tally.{Tally}
use Rattle.tallies.specs.Lines.{tally}
use Rattle.tallies.specs.Reports.{busy_of_lem}
use Rattle.machine.specs.Replay.{owners_of, outcomes, rows_at_end, count, comes_from, accepted_from, refused_from, tally_of, own_entries, own_book}
use Rattle.machine.proofs.Counts.{all-counted}
use Rattle.machine.proofs.Sample.{none-busy}

-- ---- a replay is a run of the hub's calls
none-helps : (owners : List ℕ) (i : ℕ) → octet (unhelped owners) i ≡ 0
unfolding unhelped
none-helps owners i = zero-at (length owners) i

-- a message of the book, as a call with an answer buffer of 268 octets
abbrev call_of : Recorded → Call
call_of s = record { asks = heard s.sender s.message; buffer = replicate 268 0 }

unfoldable calls_in : List Recorded → List Call
calls_in [] = []
calls_in (s ∷ ss) = call_of s ∷ calls_in ss

-- whether a call was accepted, by what it has back
abbrev was_accepted : Reply → Bool
was_accepted r = is_accepted r.answer

abbrev was_refused : Reply → Bool
was_refused r = not (is_accepted r.answer)

run-rows : (owners : List ℕ) (ss : List Recorded) (rows : Rows) → rows_at_end owners rows ss ≡ state_after (hub owners (unhelped owners)) (calls_in ss) rows
unfolding rows_at_end heard_of state_after calls_in
run-rows owners [] rows = refl
run-rows owners (s ∷ ss) rows = run-rows owners ss (heard_of owners rows s.sender s.message).rows

-- a count over the fates of a sender's messages is one over the answers of its calls
run-accepted : (owners : List ℕ) (q : ℕ) (ss : List Recorded) (rows : Rows) → count (accepted_from q) (outcomes owners rows ss) ≡ count was_accepted (answers_of (hub owners (unhelped owners)) q (calls_in ss) rows)
unfolding count outcomes heard_of answers_of calls_in
run-accepted owners q [] rows = refl
run-accepted owners q (s ∷ ss) rows = go (eqb s.sender q) (run-accepted owners q ss (heard_of owners rows s.sender s.message).rows)
  where
    go : (b : Bool) → count (accepted_from q) (outcomes owners (heard_of owners rows s.sender s.message).rows ss) ≡ count was_accepted (answers_of (hub owners (unhelped owners)) q (calls_in ss) (heard_of owners rows s.sender s.message).rows)
        → (when (when b then (heard_of owners rows s.sender s.message).taken else false) then 1 else 0) + count (accepted_from q) (outcomes owners (heard_of owners rows s.sender s.message).rows ss)
        ≡ count was_accepted (when b then (hub owners (unhelped owners)).answer (call_of s) rows ∷ answers_of (hub owners (unhelped owners)) q (calls_in ss) ((hub owners (unhelped owners)).after (call_of s) rows) else answers_of (hub owners (unhelped owners)) q (calls_in ss) ((hub owners (unhelped owners)).after (call_of s) rows))
    go true e = ap (λ (n : ℕ). (when (heard_of owners rows s.sender s.message).taken then 1 else 0) + n) e
    go false e = zero-add _ ∙ e

run-refused : (owners : List ℕ) (q : ℕ) (ss : List Recorded) (rows : Rows) → count (refused_from q) (outcomes owners rows ss) ≡ count was_refused (answers_of (hub owners (unhelped owners)) q (calls_in ss) rows)
unfolding count outcomes heard_of answers_of calls_in
run-refused owners q [] rows = refl
run-refused owners q (s ∷ ss) rows = go (eqb s.sender q) (run-refused owners q ss (heard_of owners rows s.sender s.message).rows)
  where
    go : (b : Bool) → count (refused_from q) (outcomes owners (heard_of owners rows s.sender s.message).rows ss) ≡ count was_refused (answers_of (hub owners (unhelped owners)) q (calls_in ss) (heard_of owners rows s.sender s.message).rows)
        → (when (when b then not (heard_of owners rows s.sender s.message).taken else false) then 1 else 0) + count (refused_from q) (outcomes owners (heard_of owners rows s.sender s.message).rows ss)
        ≡ count was_refused (when b then (hub owners (unhelped owners)).answer (call_of s) rows ∷ answers_of (hub owners (unhelped owners)) q (calls_in ss) ((hub owners (unhelped owners)).after (call_of s) rows) else answers_of (hub owners (unhelped owners)) q (calls_in ss) ((hub owners (unhelped owners)).after (call_of s) rows))
    go true e = ap (λ (n : ℕ). (when not (heard_of owners rows s.sender s.message).taken then 1 else 0) + n) e
    go false e = zero-add _ ∙ e

-- the sender's own calls are the same, with the others' messages or without
own-calls : (owners : List ℕ) (q : ℕ) (ss : List Recorded) → calls_of (hub owners (unhelped owners)) q (calls_in (own_entries q ss)) ≡ calls_of (hub owners (unhelped owners)) q (calls_in ss)
unfolding own_entries calls_in calls_of
own-calls owners q [] = refl
own-calls owners q (s ∷ ss) = go (eqb s.sender q) refl (own-calls owners q ss)
  where
    go : (b : Bool) → eqb s.sender q ≡ b → calls_of (hub owners (unhelped owners)) q (calls_in (own_entries q ss)) ≡ calls_of (hub owners (unhelped owners)) q (calls_in ss)
        → calls_of (hub owners (unhelped owners)) q (calls_in (when b then s ∷ own_entries q ss else own_entries q ss)) ≡ (when b then call_of s ∷ calls_of (hub owners (unhelped owners)) q (calls_in ss) else calls_of (hub owners (unhelped owners)) q (calls_in ss))
    go true p e = rw p (ap (λ (l : List Call). call_of s ∷ l) e)
    go false p e = e

own-answers-alike : (owners : List ℕ) (q : ℕ) (ss : List Recorded) (rows : Rows) → answers_of (hub owners (unhelped owners)) q (calls_in (own_entries q ss)) rows ≡ answers_of (hub owners (unhelped owners)) q (calls_in ss) rows
own-answers-alike owners q ss rows =
    party-answers-alone owners (unhelped owners) (calls_in (own_entries q ss)) (no-helpers owners (unhelped owners) (none-helps owners) (calls_in (own_entries q ss))) q rows
    ∙ ap (λ (cs : List Call). answers (hub owners (unhelped owners)) cs rows) (own-calls owners q ss)
    ∙ sym (party-answers-alone owners (unhelped owners) (calls_in ss) (no-helpers owners (unhelped owners) (none-helps owners) (calls_in ss)) q rows)

-- and the rows of its circuits end alike
own-rows-alike : (owners : List ℕ) (q : ℕ) (ss : List Recorded) (rows : Rows) (i : ℕ) → octet owners i ≡ q → octet (rows_at_end owners rows (own_entries q ss)) i ≡ octet (rows_at_end owners rows ss) i
own-rows-alike owners q ss rows i e =
    let alone : (us : List Recorded) → octet (rows_at_end owners rows us) i ≡ octet (state_after (hub owners (unhelped owners)) (calls_of (hub owners (unhelped owners)) q (calls_in us)) rows) i =
    (λ us. ap (λ (l : List ℕ). octet l i) (run-rows owners us rows) ∙ owned-rows-end-alone owners (unhelped owners) (none-helps owners) (calls_in us) i rows ∙ ap (λ (p : ℕ). octet (state_after (hub owners (unhelped owners)) (calls_of (hub owners (unhelped owners)) p (calls_in us)) rows) i) e) in
    alone (own_entries q ss)
    ∙ ap (λ (cs : List Call). octet (state_after (hub owners (unhelped owners)) cs rows) i) (own-calls owners q ss)
    ∙ sym (alone ss)

busy-alike : (owners : List ℕ) (s t : Rows) (q c n : ℕ) → ((i : ℕ) → octet owners i ≡ q → octet s i ≡ octet t i) → busy_of_lem owners s q c n ≡ busy_of_lem owners t q c n
unfolding busy_of_lem
busy-alike owners s t q c zero h = refl
busy-alike owners s t q c (suc n) h = go (eqb (octet owners c) q) refl (busy-alike owners s t q (suc c) n h)
  where
    go : (b : Bool) → eqb (octet owners c) q ≡ b → busy_of_lem owners s q (suc c) n ≡ busy_of_lem owners t q (suc c) n → (when b then busy_at_lem s c else 0) + busy_of_lem owners s q (suc c) n ≡ (when b then busy_at_lem t c else 0) + busy_of_lem owners t q (suc c) n
    go true p e = let r : busy_at_lem s c ≡ busy_at_lem t c = ap (λ (x : ℕ). busy_at_lem (x ∷ []) 0) (h c (eqb-true _ _ p)) in λ i. r i + e i
    go false p e = ap (λ (x : ℕ). 0 + x) e

-- a sender's four numbers are those of the book with the other senders' messages left out
pub replay-alone : (b : Book) (q : ℕ) → tally_of (own_book q b) q ≡ tally_of b q
replay-alone b q =
    let owners = owners_of b in
    let ss = b.entries in
    let w = own-answers-alike owners q ss at_first_lem in
    let a : count (accepted_from q) (outcomes owners at_first_lem (own_entries q ss)) ≡ count (accepted_from q) (outcomes owners at_first_lem ss) = run-accepted owners q (own_entries q ss) at_first_lem ∙ ap (count was_accepted) w ∙ sym (run-accepted owners q ss at_first_lem) in
    let r : count (refused_from q) (outcomes owners at_first_lem (own_entries q ss)) ≡ count (refused_from q) (outcomes owners at_first_lem ss) = run-refused owners q (own_entries q ss) at_first_lem ∙ ap (count was_refused) w ∙ sym (run-refused owners q ss at_first_lem) in
    let m : count (comes_from q) (own_entries q ss) ≡ count (comes_from q) ss = omega (arith, a, r, all-counted ss owners at_first_lem q, all-counted (own_entries q ss) owners at_first_lem q) in
    let y : busy_of_lem owners (rows_at_end owners at_first_lem (own_entries q ss)) q 0 4096 ≡ busy_of_lem owners (rows_at_end owners at_first_lem ss) q 0 4096 = busy-alike owners _ _ q 0 4096 (own-rows-alike owners q ss at_first_lem) in
    λ i. tally (m i) (a i) (r i) (y i)

-- which is a good book where the whole is one
own-fewer : (q : ℕ) (ss : List Recorded) → length (own_entries q ss) ≤ length ss
unfolding own_entries
own-fewer q [] = omega arith
own-fewer q (s ∷ ss) = go (eqb s.sender q) (own-fewer q ss)
  where
    go : (b : Bool) → length (own_entries q ss) ≤ length ss → length (when b then s ∷ own_entries q ss else own_entries q ss) ≤ suc (length ss)
    go true h = omega arith
    go false h = omega arith

own-all : (q : ℕ) (ss : List Recorded) → AllEntries ss → AllEntries (own_entries q ss)
unfolding own_entries
own-all q [] g = tt
own-all q (s ∷ ss) g = go (eqb s.sender q) (own-all q ss g.1)
  where
    go : (b : Bool) → AllEntries (own_entries q ss) → AllEntries (when b then s ∷ own_entries q ss else own_entries q ss)
    go true h = (g.0, h)
    go false h = h

pub own-good : (b : Book) (q : ℕ) → Good b → Good (own_book q b)
own-good b q g = record { span_count = g.span_count; entry_count = omega (arith, own-fewer q b.entries, g.entry_count); spans = g.spans; entries = own-all q b.entries g.entries }

-- ---- a message of sender 0, or of length 0
refused_as : (owners : List ℕ) (rows : Rows) (sender : ℕ) (m : List ℕ) (n at : ℕ) → (act_of (tables rows owners (unhelped owners)) sender m (replicate 268 0)).answer ≡ refused n at → heard_of owners rows sender m ≡ heard_as rows false
unfolding heard_of
refused_as owners rows sender m n at e = λ i. heard_as ((act-keeps (tables rows owners (unhelped owners)) sender m (replicate 268 0) n at e).0 i) (is_accepted (e i))

nobody-refused : (owners : List ℕ) (rows : Rows) (m : List ℕ) → heard_of owners rows 0 m ≡ heard_as rows false
nobody-refused owners rows m =
    ⊎_elim
    (λ e. absurd ((accepted-sender (tables rows owners (unhelped owners)) 0 m (replicate 268 0) e.0 e.1).0 refl))
    (λ e. refused_as owners rows 0 m e.0 e.1 e.2)
    (answer-or (tables rows owners (unhelped owners)) 0 m (replicate 268 0))

empty-refused : (owners : List ℕ) (rows : Rows) (sender : ℕ) → heard_of owners rows sender [] ≡ heard_as rows false
unfolding heard_of act_of grant_of ask_of read_of parts_of
empty-refused owners rows sender = go (sized (tables rows owners (unhelped owners)))
  where
    go : (b : Bool) → heard_by (carried_out (tables rows owners (unhelped owners)) [] (replicate 268 0) (when b then (ask_of [] then allowed_of (tables rows owners (unhelped owners)) sender [] (length {A = ℕ} (replicate 268 0))) else refused 16 0)) ≡ heard_as rows false
    go true = refl
    go false = refl

-- such a message is refused, whatever the rows are, and changes none
pub zero-refused : (owners : List ℕ) (rows : Rows) (s : Recorded) → (s.sender ≡ 0) ⊎ (s.message ≡ []) → heard_of owners rows s.sender s.message ≡ heard_as rows false
zero-refused owners rows s h =
    ⊎_elim
    (λ e. ap (λ (q : ℕ). heard_of owners rows q s.message) e ∙ nobody-refused owners rows s.message)
    (λ e. ap (heard_of owners rows s.sender) e ∙ empty-refused owners rows s.sender)
    h

-- so sender 0 has as many refused as it sent, and nothing else
nobody-rows : (owners : List ℕ) (ss : List Recorded) (rows : Rows) → rows_at_end owners rows (own_entries 0 ss) ≡ rows
unfolding own_entries rows_at_end
nobody-rows owners [] rows = refl
nobody-rows owners (s ∷ ss) rows = go (eqb s.sender 0) refl (nobody-rows owners ss rows)
  where
    go : (b : Bool) → eqb s.sender 0 ≡ b → rows_at_end owners rows (own_entries 0 ss) ≡ rows → rows_at_end owners rows (when b then s ∷ own_entries 0 ss else own_entries 0 ss) ≡ rows
    go true p e = ap (λ (h : Heard). rows_at_end owners h.rows (own_entries 0 ss)) (zero-refused owners rows s (inl (eqb-true _ _ p))) ∙ e
    go false p e = e

nobody-accepted : (owners : List ℕ) (ss : List Recorded) (rows : Rows) → count (accepted_from 0) (outcomes owners rows (own_entries 0 ss)) ≡ 0
unfolding own_entries count outcomes
nobody-accepted owners [] rows = refl
nobody-accepted owners (s ∷ ss) rows = go (eqb s.sender 0) refl (nobody-accepted owners ss rows)
  where
    go : (b : Bool) → eqb s.sender 0 ≡ b → count (accepted_from 0) (outcomes owners rows (own_entries 0 ss)) ≡ 0 → count (accepted_from 0) (outcomes owners rows (when b then s ∷ own_entries 0 ss else own_entries 0 ss)) ≡ 0
    go true p e =
        ap (λ (h : Heard). (when (when eqb s.sender 0 then h.taken else false) then 1 else 0) + count (accepted_from 0) (outcomes owners h.rows (own_entries 0 ss))) (zero-refused owners rows s (inl (eqb-true _ _ p)))
        ∙ rw p (omega (arith, e))
    go false p e = e

at_first : (i : ℕ) → busy_at_lem at_first_lem i ≡ 0
unfolding at_first_lem
at_first i = ap (λ (x : ℕ). busy_at_lem (x ∷ []) 0) (zero-at 4096 i)

pub zero-line : (b : Book) → tally_of b 0 ≡ tally (count (comes_from 0) b.entries) 0 (count (comes_from 0) b.entries) 0
zero-line b =
    let owners = owners_of b in
    let ss = b.entries in
    let own = replay-alone b 0 in
    let a : (tally_of b 0).accepted ≡ 0 = ap (λ (t : Tally). t.accepted) (sym own) ∙ nobody-accepted owners ss at_first_lem in
    let r : (tally_of b 0).refused ≡ count (comes_from 0) ss = omega (arith, a, all-counted ss owners at_first_lem 0) in
    let y : (tally_of b 0).busy ≡ 0 = ap (λ (t : Tally). t.busy) (sym own) ∙ ap (λ (x : Rows). busy_of_lem owners x 0 0 4096) (nobody-rows owners ss at_first_lem) ∙ none-busy owners at_first_lem 0 0 4096 at_first in
    λ i. tally (count (comes_from 0) ss) (a i) (r i) (y i)

-- ---- a sender that sent nothing has no busy circuit, so no sum would differ where it had a line
silent-own : (q : ℕ) (ss : List Recorded) → count (comes_from q) ss ≡ 0 → own_entries q ss ≡ []
unfolding own_entries count
silent-own q [] z = refl
silent-own q (s ∷ ss) z = go (eqb s.sender q) (λ n. silent-own q ss n) z
  where
    go : (b : Bool) → (count (comes_from q) ss ≡ 0 → own_entries q ss ≡ []) → (when b then 1 else 0) + count (comes_from q) ss ≡ 0 → (when b then s ∷ own_entries q ss else own_entries q ss) ≡ []
    go true ih n = absurd (omega arith)
    go false ih n = ih (omega arith)

no_rows : (owners : List ℕ) (rows : Rows) → rows_at_end owners rows [] ≡ rows
unfolding rows_at_end
no_rows owners rows = refl

pub silent-idle : (b : Book) (q : ℕ) → (tally_of b q).messages ≡ 0 → (tally_of b q).busy ≡ 0
silent-idle b q z =
    let owners = owners_of b in
    ap (λ (t : Tally). t.busy) (sym (replay-alone b q))
    ∙ ap (λ (ss : List Recorded). busy_of_lem owners (rows_at_end owners at_first_lem ss) q 0 4096) (silent-own q b.entries z)
    ∙ ap (λ (x : Rows). busy_of_lem owners x q 0 4096) (no_rows owners at_first_lem)
    ∙ none-busy owners at_first_lem q 0 4096 at_first
