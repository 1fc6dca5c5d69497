-- The order of arrival does not matter, with the totals: rows, totals and answers.
use Prim.Native.Nat.{ℕ, ◌+◌, ◌/◌, ◌≤◌, ◌<◌}
use mathlib.Core.Path.{◌≡◌, refl, sym, ◌∙◌, ap}
use mathlib.Core.Bool.{Bool, true, false}
use mathlib.Core.List.{List, [], ◌∷◌, ◌++◌}
use mathlib.Core.Logic.{◌⊎◌, inl, inr, ⊎_elim, ◌↔◌}
use native.Mathlib.Omega.{arith}
use borrow.Author.Tests.{ltb-true, ltb-false, eqb-true}
use lib.Dec.{ltb, eqb}
use lib.ListN.{length}
use lib.Seq.{ext_get_or}
use Rattle.octets.specs.Octet.{octet}
use Rattle.octets.specs.Choice.{when◌then◌else◌}
use Rattle.octets.specs.Answer.{Answer, accepted, refused}
use Rattle.octets.proofs.Answer.{accepted-same, refused-same, refused-accepted}
use Rattle.octets.proofs.Choice.{chosen, true-false}
use Rattle.totals.specs.Blocks.{block_count_lem}
use Rattle.totals.proofs.Recounted.{recounted-right, recounted-stays, block_same}
use Rattle.asks.specs.declared.Ask.{Ask}
use Rattle.asks.specs.Asks.{ask_of}
use Rattle.asks.proofs.Reading.{ask-last}
use Rattle.arrival.specs.Calls.{Apart, Separate, Merged, state_after, answers_of, answers}
use Rattle.arrival.specs.Totals.{Totals, touched}
use Rattle.arrival.proofs.Isolation.{merges-size-alike, state-so-far, answer-so-far, merges-answer-alike, merges-end-alike, merge-answers-alone}
use Rattle.arrival.proofs.Settled.{settled, merges-total-alike}
use Rattle.rights.specs.Tables.{Tables, tables}
use Rattle.hub.specs.Acts.{act_of}
use Rattle.hub.specs.Deeds.{deed, with_circuits}
use Rattle.hub.specs.Arrival.{Event, heard, ours, Call, party_of, done_by, holds_of, hub}
use Rattle.hub.specs.declared.Handled.{Handled}
use Rattle.hub.proofs.Called.{call-accepted, act-keeps, untouched}
use Rattle.hub.proofs.Desk.{desk-called, desk-keeps, desk-untouched}
use Rattle.hub.proofs.Orders.{done-length, done-alike, keeps-others, no-helpers}
use Rattle.board.specs.Board.{BoardAfter, totals_after, keeping, board_of, desk_board_of}
use Rattle.board.specs.Arrival.{Standings, named_by, kept_by, replied_by, board}
use Rattle.board.proofs.Kept.{kept-length, spanned-is}

-- ---- both kinds of call as one
module _ (owners helpers : List ℕ) where
  -- a call with the totals is the hub's call with the totals kept
  kept-is : (a : Event) (buffer : List ℕ) (s : Standings) → kept_by owners helpers a buffer s ≡ keeping s.rows s.totals buffer (named_by a) (done_by owners helpers a buffer s.rows)
  unfolding board_of desk_board_of
  kept-is (heard sender m) buffer s = refl
  kept-is (ours circuit set) buffer s = refl

  -- the rows that it leaves: the hub's, or all as they were where there are not 64 totals
  pub rows_left : (a : Event) (buffer : List ℕ) (s : Standings) (t : Bool) → eqb (length s.totals) 64 ≡ t → (kept_by owners helpers a buffer s).states ≡ (when t then (done_by owners helpers a buffer s.rows).states else s.rows)
  rows_left a buffer s true e = ap (λ (x : BoardAfter). x.states) (kept-is a buffer s) ∙ rw e refl
  rows_left a buffer s false e = ap (λ (x : BoardAfter). x.states) (kept-is a buffer s) ∙ rw e refl

  -- its answer, likewise
  pub answer-left : (a : Event) (buffer : List ℕ) (s : Standings) (t : Bool) → eqb (length s.totals) 64 ≡ t → (kept_by owners helpers a buffer s).answer ≡ (when t then (done_by owners helpers a buffer s.rows).answer else refused 16 0)
  answer-left a buffer s true e = ap (λ (x : BoardAfter). x.answer) (kept-is a buffer s) ∙ rw e refl
  answer-left a buffer s false e = ap (λ (x : BoardAfter). x.answer) (kept-is a buffer s) ∙ rw e refl

  -- and its buffer
  pub buffer-left : (a : Event) (buffer : List ℕ) (s : Standings) (t : Bool) → eqb (length s.totals) 64 ≡ t → (kept_by owners helpers a buffer s).buffer ≡ (when t then (done_by owners helpers a buffer s.rows).buffer else buffer)
  buffer-left a buffer s true e = ap (λ (x : BoardAfter). x.buffer) (kept-is a buffer s) ∙ rw e refl
  buffer-left a buffer s false e = ap (λ (x : BoardAfter). x.buffer) (kept-is a buffer s) ∙ rw e refl

  -- its totals: where there are 64, and the call is accepted, the named blocks are counted anew
  pub totals-left : (a : Event) (buffer : List ℕ) (s : Standings) (t : Bool) → eqb (length s.totals) 64 ≡ t
      → (kept_by owners helpers a buffer s).totals ≡ (when t then totals_after (done_by owners helpers a buffer s.rows).states (named_by a (done_by owners helpers a buffer s.rows).answer) s.totals else s.totals)
  totals-left a buffer s true e = ap (λ (x : BoardAfter). x.totals) (kept-is a buffer s) ∙ rw e refl
  totals-left a buffer s false e = ap (λ (x : BoardAfter). x.totals) (kept-is a buffer s) ∙ rw e refl

  pub rows-length : (a : Event) (buffer : List ℕ) (s : Standings) → length (kept_by owners helpers a buffer s).states ≡ length s.rows
  rows-length a buffer s = go (eqb (length s.totals) 64) refl
    where
      go : (t : Bool) → eqb (length s.totals) 64 ≡ t → length (kept_by owners helpers a buffer s).states ≡ length s.rows
      go true e = ap length (rows_left a buffer s true e) ∙ done-length owners helpers a buffer s.rows
      go false e = ap length (rows_left a buffer s false e)

  pub totals-length : (a : Event) (buffer : List ℕ) (s : Standings) → length (kept_by owners helpers a buffer s).totals ≡ length s.totals
  totals-length a buffer s = ap (λ (x : BoardAfter). length x.totals) (kept-is a buffer s) ∙ kept-length s.rows s.totals buffer (named_by a) (done_by owners helpers a buffer s.rows)

-- two lists of two numbers
first-same : {a b c d : ℕ} → a ∷ b ∷ [] ≡ c ∷ d ∷ [] → a ≡ c
first-same e = cc

second-same : {a b c d : ℕ} → a ∷ b ∷ [] ≡ c ∷ d ∷ [] → b ≡ d
second-same e = cc

-- the two facts, for every table, buffer, sender number and circuit: no answer looks at a total,
-- but for how many there are
pub board-apart : (owners helpers : List ℕ) → Apart (board owners helpers)
board-apart owners helpers = record {
  sees = λ c s t w. sees c.asks c.buffer s t (first-same w.0) (second-same w.0) w.1 (eqb (length s.totals) 64) refl;
  keeps = λ c s. (sizes c.asks c.buffer s, λ i z. others c.asks c.buffer s i z (eqb (length s.totals) 64) refl);
}
  where
    sizes : (a : Event) (buffer : List ℕ) (s : Standings) → length (kept_by owners helpers a buffer s).states ∷ length (kept_by owners helpers a buffer s).totals ∷ [] ≡ length s.rows ∷ length s.totals ∷ []
    sizes a buffer s i = rows-length owners helpers a buffer s i ∷ totals-length owners helpers a buffer s i ∷ []

    others : (a : Event) (buffer : List ℕ) (s : Standings) (i : ℕ) → holds_of owners helpers (party_of owners a) i ≡ false → (t : Bool) → eqb (length s.totals) 64 ≡ t → octet (kept_by owners helpers a buffer s).states i ≡ octet s.rows i
    others a buffer s i z true e = ap (λ (l : List ℕ). octet l i) (rows_left owners helpers a buffer s true e) ∙ keeps-others owners helpers a buffer s.rows i z
    others a buffer s i z false e = ap (λ (l : List ℕ). octet l i) (rows_left owners helpers a buffer s false e)

    sees : (a : Event) (buffer : List ℕ) (s t : Standings) → length s.rows ≡ length t.rows → length s.totals ≡ length t.totals
        → ((i : ℕ) → holds_of owners helpers (party_of owners a) i ≡ true → octet s.rows i ≡ octet t.rows i) → (b : Bool) → eqb (length s.totals) 64 ≡ b
        → (replied_by (kept_by owners helpers a buffer s) ≡ replied_by (kept_by owners helpers a buffer t))
        × ((length (kept_by owners helpers a buffer s).states ∷ length (kept_by owners helpers a buffer s).totals ∷ [] ≡ length (kept_by owners helpers a buffer t).states ∷ length (kept_by owners helpers a buffer t).totals ∷ [])
        × ((i : ℕ) → holds_of owners helpers (party_of owners a) i ≡ true → octet (kept_by owners helpers a buffer s).states i ≡ octet (kept_by owners helpers a buffer t).states i))
    sees a buffer s t long many agree b e =
        let f : eqb (length t.totals) 64 ≡ b = ap (λ (n : ℕ). eqb n 64) (sym many) ∙ e in
        let y = done-alike owners helpers a s.rows t.rows long agree buffer in (
          λ i. record {
            answer = (answer-left owners helpers a buffer s b e ∙ same b y.0 ∙ sym (answer-left owners helpers a buffer t b f)) i;
            buffer = (buffer-left owners helpers a buffer s b e ∙ held b y.1 ∙ sym (buffer-left owners helpers a buffer t b f)) i;
          },
          (
            sizes a buffer s ∙ (λ i. long i ∷ many i ∷ []) ∙ sym (sizes a buffer t),
            λ i z.
                ap (λ (l : List ℕ). octet l i) (rows_left owners helpers a buffer s b e)
                ∙ rows b i (agree i z) (y.2 i z)
                ∙ sym (ap (λ (l : List ℕ). octet l i) (rows_left owners helpers a buffer t b f)),
          ),
        )
      where
        same : (b : Bool) → (done_by owners helpers a buffer s.rows).answer ≡ (done_by owners helpers a buffer t.rows).answer → (when b then (done_by owners helpers a buffer s.rows).answer else refused 16 0) ≡ (when b then (done_by owners helpers a buffer t.rows).answer else refused 16 0)
        same true h = h
        same false h = refl

        held : (b : Bool) → (done_by owners helpers a buffer s.rows).buffer ≡ (done_by owners helpers a buffer t.rows).buffer → (when b then (done_by owners helpers a buffer s.rows).buffer else buffer) ≡ (when b then (done_by owners helpers a buffer t.rows).buffer else buffer)
        held true h = h
        held false h = refl

        rows : (b : Bool) (i : ℕ) → octet s.rows i ≡ octet t.rows i → octet (done_by owners helpers a buffer s.rows).states i ≡ octet (done_by owners helpers a buffer t.rows).states i
            → octet (when b then (done_by owners helpers a buffer s.rows).states else s.rows) i ≡ octet (when b then (done_by owners helpers a buffer t.rows).states else t.rows) i
        rows true i g h = h
        rows false i g h = g

-- ---- the totals: which calls set one
-- block k holds a circuit that is named, by the call and its answer
abbrev pub sets_block : Answer Handled → ℕ → Bool
sets_block (accepted d) k = when ltb k (d.first / 64) then false else (when ltb (d.last / 64) k then false else true)
sets_block (refused n at) k = false

-- what an accepted call names lies in the table, and its rows alone change
pub record Reached (a : Event) (owners helpers buffer states : List ℕ) : Type 0 where
  pub within : (n : ℕ) (d : Handled) → (done_by owners helpers a buffer states).answer ≡ accepted n → named_by a (accepted n) ≡ accepted d → d.last ≤ 4095
  pub outside : (n : ℕ) (d : Handled) → (done_by owners helpers a buffer states).answer ≡ accepted n → named_by a (accepted n) ≡ accepted d → (i : ℕ) → (i < d.first) ⊎ (d.last < i) → octet (done_by owners helpers a buffer states).states i ≡ octet states i
  pub kept : (n at : ℕ) → (done_by owners helpers a buffer states).answer ≡ refused n at → (done_by owners helpers a buffer states).states ≡ states

pub reached : (owners helpers : List ℕ) (a : Event) (buffer states : List ℕ) → Reached a owners helpers buffer states
reached owners helpers (heard sender m) buffer states = record {
  within = λ n d e q. omega (arith, ask-last m (asked n e) (asks n e), ap (λ (x : Handled). x.last) (is n d e q));
  outside = λ n d e q i o. untouched T sender m buffer i (λ w.
      let same : w.0 ≡ asked n e = accepted-same (sym w.1 ∙ asks n e) in
      let x = is n d e q in
      ⊎_elim
      (λ l. omega (arith, l, w.2.0, ap (λ (y : Ask). y.circuit) same, ap (λ (y : Handled). y.first) x))
      (λ l. omega (arith, l, w.2.1, ap (λ (y : Ask). y.circuit) same, ap (λ (y : Ask). y.range) same, ap (λ (y : Handled). y.last) x))
      o);
  kept = λ n at e. (act-keeps T sender m buffer n at e).0;
}
  where
    T : Tables
    T = tables states owners helpers

    asked : (n : ℕ) → (act_of (tables states owners helpers) sender m buffer).answer ≡ accepted n → Ask
    asked n e = (call-accepted (tables states owners helpers) sender m buffer n e).ask

    asks : (n : ℕ) (e : (act_of (tables states owners helpers) sender m buffer).answer ≡ accepted n) → ask_of m ≡ accepted (call-accepted (tables states owners helpers) sender m buffer n e).ask
    asks n e = (call-accepted (tables states owners helpers) sender m buffer n e).allowed.asks

    is : (n : ℕ) (d : Handled) (e : (act_of (tables states owners helpers) sender m buffer).answer ≡ accepted n) → with_circuits (ask_of m) (accepted n) ≡ accepted d
        → deed n (call-accepted (tables states owners helpers) sender m buffer n e).ask.circuit ((call-accepted (tables states owners helpers) sender m buffer n e).ask.circuit + (call-accepted (tables states owners helpers) sender m buffer n e).ask.range) ≡ d
    is n d e q = accepted-same (sym (spanned-is m (call-accepted (tables states owners helpers) sender m buffer n e).ask n (call-accepted (tables states owners helpers) sender m buffer n e).allowed.asks) ∙ q)
reached owners helpers (ours circuit set) buffer states = record {
  within = λ n d e q. omega (arith, (desk-called states circuit set buffer n e).granted.known, ap (λ (x : Handled). x.last) (accepted-same q));
  outside = λ n d e q i o. desk-untouched states circuit set buffer i (λ r h.
      let x : deed n circuit circuit ≡ d = accepted-same q in
      ⊎_elim (λ l. omega (arith, l, r, ap (λ (y : Handled). y.first) x)) (λ l. omega (arith, l, r, ap (λ (y : Handled). y.last) x)) o);
  kept = λ n at e. (desk-keeps states circuit set buffer n at e).0;
}

-- circuits are named where the call is accepted
pub answered : (owners helpers : List ℕ) (a : Event) (buffer states : List ℕ) (d : Handled) → named_by a (done_by owners helpers a buffer states).answer ≡ accepted d
    → (n : ℕ) × ((done_by owners helpers a buffer states).answer ≡ accepted n) × (named_by a (accepted n) ≡ accepted d)
answered owners helpers a buffer states d q = go (done_by owners helpers a buffer states).answer refl q
  where
    refusal-names-none : (a : Event) (n at : ℕ) → named_by a (refused n at) ≡ accepted d → ⊥
    refusal-names-none (heard sender m) n at h = spanless (ask_of m) h
      where
        spanless : (g : Answer Ask) → with_circuits g (refused n at) ≡ accepted d → ⊥
        spanless (accepted x) h = refused-accepted h
        spanless (refused k place) h = refused-accepted h
    refusal-names-none (ours circuit set) n at h = refused-accepted h

    go : (x : Answer ℕ) → (done_by owners helpers a buffer states).answer ≡ x → named_by a x ≡ accepted d → (n : ℕ) × ((done_by owners helpers a buffer states).answer ≡ accepted n) × (named_by a (accepted n) ≡ accepted d)
    go (accepted n) e h = (n, e, h)
    go (refused n at) e h = absurd (refusal-names-none a n at h)

-- and none where it is refused
pub refusing : (owners helpers : List ℕ) (a : Event) (buffer states : List ℕ) (n at : ℕ) → named_by a (done_by owners helpers a buffer states).answer ≡ refused n at → (done_by owners helpers a buffer states).answer ≡ refused n at
refusing owners helpers a buffer states n at q = go a (done_by owners helpers a buffer states).answer q
  where
    spanned-back : (g : Answer Ask) (x : Answer ℕ) → with_circuits g x ≡ refused n at → x ≡ refused n at
    spanned-back (accepted y) (accepted k) h = absurd (refused-accepted (sym h))
    spanned-back (refused z place) (accepted k) h = absurd (refused-accepted (sym h))
    spanned-back (accepted y) (refused k place) h = let s = refused-same h in λ i. refused (s.0 i) (s.1 i)
    spanned-back (refused z to) (refused k place) h = let s = refused-same h in λ i. refused (s.0 i) (s.1 i)

    go : (a : Event) (x : Answer ℕ) → named_by a x ≡ refused n at → x ≡ refused n at
    go (heard sender m) x h = spanned-back (ask_of m) x h
    go (ours circuit set) (accepted k) h = absurd (refused-accepted (sym h))
    go (ours circuit set) (refused k place) h = let s = refused-same h in λ i. refused (s.0 i) (s.1 i)

-- the board's totals, as those of any calls: what each should be by the
-- rows, and which calls set it
unfoldable pub board-counts : (owners helpers : List ℕ) → Totals (board owners helpers)
board-counts owners helpers = record {
  total = λ s k. octet s.totals k;
  count = λ s k. block_count_lem s.rows k;
  sets = λ c r k. sets_block (named_by c.asks r.answer) k;
  counted = λ c s k h. recount c.asks c.buffer s k (eqb (length s.totals) 64) refl h;
  counts = λ s t e k. block_same t.rows s.rows k (λ i q. e i);
  stays = λ c s k h. leave c.asks c.buffer s k (eqb (length s.totals) 64) refl h;
}
  where
    -- the blocks from that of the first circuit to that of the last
    inside : (d : Handled) (k : ℕ) → sets_block (accepted d) k ≡ true → (d.first / 64 ≤ k) × (k ≤ d.last / 64)
    inside d k e =
        ⊎_elim
        (λ w. absurd (true-false {t = false} w.1 refl))
        (λ w. ⊎_elim (λ u. absurd (true-false {t = false} u.1 refl)) (λ u. (ltb-false k (d.first / 64) w.0, ltb-false (d.last / 64) k u.0)) (chosen (ltb (d.last / 64) k) w.1))
        (chosen (ltb k (d.first / 64)) e)

    beyond : (d : Handled) (k : ℕ) → sets_block (accepted d) k ≡ false → (k < d.first / 64) ⊎ (d.last / 64 < k)
    beyond d k e = go (ltb k (d.first / 64)) (ltb (d.last / 64) k) refl refl e
      where
        go : (s t : Bool) → ltb k (d.first / 64) ≡ s → ltb (d.last / 64) k ≡ t → (when s then false else (when t then false else true)) ≡ false → (k < d.first / 64) ⊎ (d.last / 64 < k)
        go true t p q h = inl (ltb-true k (d.first / 64) p)
        go false true p q h = inr (ltb-true (d.last / 64) k q)
        go false false p q h = absurd (true-false {t = true} refl h)

    recount : (a : Event) (buffer : List ℕ) (s : Standings) (k : ℕ) (b : Bool) → eqb (length s.totals) 64 ≡ b → sets_block (named_by a (kept_by owners helpers a buffer s).answer) k ≡ true
        → octet (kept_by owners helpers a buffer s).totals k ≡ block_count_lem (kept_by owners helpers a buffer s).states k
    recount a buffer s k false e h = absurd (never a (ap (λ (x : Answer ℕ). sets_block (named_by a x) k) (sym (answer-left owners helpers a buffer s false e)) ∙ h))
      where
        never : (a : Event) → sets_block (named_by a (refused 16 0)) k ≡ true → ⊥
        never (heard sender m) h = spanless (ask_of m) h
          where
            spanless : (g : Answer Ask) → sets_block (with_circuits g (refused 16 0)) k ≡ true → ⊥
            spanless (accepted x) h = true-false {t = false} h refl
            spanless (refused n at) h = true-false {t = false} h refl
        never (ours circuit set) h = true-false {t = false} h refl
    recount a buffer s k true e h =
        go (named_by a (done_by owners helpers a buffer s.rows).answer) refl (ap (λ (x : Answer ℕ). sets_block (named_by a x) k) (sym (answer-left owners helpers a buffer s true e)) ∙ h)
      where
        go : (x : Answer Handled) → named_by a (done_by owners helpers a buffer s.rows).answer ≡ x → sets_block x k ≡ true → octet (kept_by owners helpers a buffer s).totals k ≡ block_count_lem (kept_by owners helpers a buffer s).states k
        go (accepted d) q h =
            let w = inside d k h in
            let r = reached owners helpers a buffer s.rows in
            let y = answered owners helpers a buffer s.rows d q in
            ap (λ (l : List ℕ). octet l k) (totals-left owners helpers a buffer s true e ∙ ap (λ (x : Answer Handled). totals_after (done_by owners helpers a buffer s.rows).states x s.totals) q)
            ∙ recounted-right (done_by owners helpers a buffer s.rows).states d.first d.last s.totals k w.0 w.1 (omega (arith, w.1, r.within y.0 d y.1 y.2, eqb-true (length s.totals) 64 e))
            ∙ ap (λ (l : List ℕ). block_count_lem l k) (sym (rows_left owners helpers a buffer s true e))
        go (refused n at) q h = absurd (true-false {t = false} h refl)

    leave : (a : Event) (buffer : List ℕ) (s : Standings) (k : ℕ) (b : Bool) → eqb (length s.totals) 64 ≡ b → sets_block (named_by a (kept_by owners helpers a buffer s).answer) k ≡ false
        → (octet (kept_by owners helpers a buffer s).totals k ≡ octet s.totals k) × (block_count_lem (kept_by owners helpers a buffer s).states k ≡ block_count_lem s.rows k)
    leave a buffer s k false e h = (ap (λ (l : List ℕ). octet l k) (totals-left owners helpers a buffer s false e), ap (λ (l : List ℕ). block_count_lem l k) (rows_left owners helpers a buffer s false e))
    leave a buffer s k true e h =
        go (named_by a (done_by owners helpers a buffer s.rows).answer) refl (ap (λ (x : Answer ℕ). sets_block (named_by a x) k) (sym (answer-left owners helpers a buffer s true e)) ∙ h)
      where
        go : (x : Answer Handled) → named_by a (done_by owners helpers a buffer s.rows).answer ≡ x → sets_block x k ≡ false → (octet (kept_by owners helpers a buffer s).totals k ≡ octet s.totals k) × (block_count_lem (kept_by owners helpers a buffer s).states k ≡ block_count_lem s.rows k)
        go (accepted d) q h =
            let o = beyond d k h in
            let r = reached owners helpers a buffer s.rows in
            let y = answered owners helpers a buffer s.rows d q in (
              ap (λ (l : List ℕ). octet l k) (totals-left owners helpers a buffer s true e ∙ ap (λ (x : Answer Handled). totals_after (done_by owners helpers a buffer s.rows).states x s.totals) q)
                  ∙ recounted-stays (done_by owners helpers a buffer s.rows).states d.first d.last s.totals k o,
              ap (λ (l : List ℕ). block_count_lem l k) (rows_left owners helpers a buffer s true e)
                  ∙ block_same s.rows (done_by owners helpers a buffer s.rows).states k (λ i p. r.outside y.0 d y.1 y.2 i (⊎_elim (λ l. inl (omega (arith, l, p))) (λ l. inr (omega (arith, l, p))) o)),
            )
        go (refused n at) q h =
            let y = refusing owners helpers a buffer s.rows n at q in (
              ap (λ (l : List ℕ). octet l k) (totals-left owners helpers a buffer s true e ∙ ap (λ (x : Answer Handled). totals_after (done_by owners helpers a buffer s.rows).states x s.totals) q),
              ap (λ (l : List ℕ). block_count_lem l k) (rows_left owners helpers a buffer s true e ∙ (reached owners helpers a buffer s.rows).kept n at y),
            )

-- ---- demand 3
-- where no two different parties of the list have a right on the same circuit, any two merges of
-- the same lists end in the same rows and the same totals, with the same answer for each call
pub order-does-not-matter-counted : (owners helpers : List ℕ) (cs ds : List Call) (ls : ℕ → List Call) (s : Standings) → Merged (board owners helpers) cs ls → Merged (board owners helpers) ds ls → Separate (board owners helpers) cs
    → (state_after (board owners helpers) cs s ≡ state_after (board owners helpers) ds s) × ((party : ℕ) → answers_of (board owners helpers) party cs s ≡ answers_of (board owners helpers) party ds s)
unfolding board-counts
order-does-not-matter-counted owners helpers cs ds ls s m n z =
    let sizes = merges-size-alike (board owners helpers) (board-apart owners helpers) cs ds ls m n z s in
    let rows = ext_get_or 0 (state_after (board owners helpers) cs s).rows (state_after (board owners helpers) ds s).rows (first-same sizes) (λ i h. merges-end-alike (board owners helpers) (board-apart owners helpers) cs ds ls m n z s i) in
    let totals = ext_get_or 0 (state_after (board owners helpers) cs s).totals (state_after (board owners helpers) ds s).totals (second-same sizes) (λ k h. merges-total-alike (board owners helpers) (board-counts owners helpers) (board-apart owners helpers) cs ds ls m n z s k) in
    ((λ i. record { rows = rows i; totals = totals i }), merges-answer-alike (board owners helpers) (board-apart owners helpers) cs ds ls m n z s)

-- and each party has the answers that it has if the others had sent nothing
pub as-if-alone-counted : (owners helpers : List ℕ) (cs : List Call) (ls : ℕ → List Call) (s : Standings) → Merged (board owners helpers) cs ls → Separate (board owners helpers) cs → (party : ℕ) → answers_of (board owners helpers) party cs s ≡ answers (board owners helpers) (ls party) s
as-if-alone-counted owners helpers cs ls s m z = merge-answers-alone (board owners helpers) (board-apart owners helpers) cs ls m z s

-- the condition is the hub's: the same parties, and the same rights
pub same-condition : (owners helpers : List ℕ) (cs : List Call) → Separate (hub owners helpers) cs ↔ Separate (board owners helpers) cs
same-condition owners helpers cs = (λ z. z, λ z. z)

-- with no helpers every list keeps it
pub order-counted-with-no-helpers : (owners helpers : List ℕ) → ((i : ℕ) → octet helpers i ≡ 0) → (cs ds : List Call) (ls : ℕ → List Call) (s : Standings) → Merged (board owners helpers) cs ls → Merged (board owners helpers) ds ls
    → (state_after (board owners helpers) cs s ≡ state_after (board owners helpers) ds s) × ((party : ℕ) → answers_of (board owners helpers) party cs s ≡ answers_of (board owners helpers) party ds s)
order-counted-with-no-helpers owners helpers none cs ds ls s m n = order-does-not-matter-counted owners helpers cs ds ls s m n (no-helpers owners helpers none cs)

-- at the end a total is the count of the final rows if some accepted call named a circuit of its
-- block, else what it was: no total is in a party's hands
pub totals-settled : (owners helpers : List ℕ) (cs : List Call) (s : Standings) (k : ℕ)
    → octet (state_after (board owners helpers) cs s).totals k ≡ (when touched (board owners helpers) (board-counts owners helpers) cs s k then block_count_lem (state_after (board owners helpers) cs s).rows k else octet s.totals k)
unfolding board-counts
totals-settled owners helpers cs s k = settled (board owners helpers) (board-counts owners helpers) cs s k

-- the calls are those of `act` and `desk_call`
pub board-is-act : (owners helpers : List ℕ) (sender : ℕ) (m buffer : List ℕ) (s : Standings) →
    let c : Call = record { asks = heard sender m; buffer = buffer } in
    let r = board_of (tables s.rows owners helpers) s.totals sender m buffer in
    ((board owners helpers).party c ≡ sender)
    × (((board owners helpers).answer c s).answer ≡ r.answer)
    × (((board owners helpers).answer c s).buffer ≡ r.buffer)
    × (((board owners helpers).after c s).rows ≡ r.states)
    × (((board owners helpers).after c s).totals ≡ r.totals)
board-is-act owners helpers sender m buffer s = (refl, refl, refl, refl, refl)

pub board-is-desk : (owners helpers : List ℕ) (circuit : ℕ) (set : Bool) (buffer : List ℕ) (s : Standings) →
    let c : Call = record { asks = ours circuit set; buffer = buffer } in
    let r = desk_board_of s.rows s.totals circuit set buffer in
    (((board owners helpers).answer c s).answer ≡ r.answer)
    × (((board owners helpers).answer c s).buffer ≡ r.buffer)
    × (((board owners helpers).after c s).rows ≡ r.states)
    × (((board owners helpers).after c s).totals ≡ r.totals)
board-is-desk owners helpers circuit set buffer s = (refl, refl, refl, refl)

-- the rules at every call, with no condition: what it leaves, and its answer, are those at the rows
-- and totals that the calls before it left
pub counted-in-order : (owners helpers : List ℕ) (cs ds : List Call) (c : Call) (s : Standings)
    → (state_after (board owners helpers) (cs ++ (c ∷ [])) s ≡ (board owners helpers).after c (state_after (board owners helpers) cs s))
    × (answers (board owners helpers) (cs ++ (c ∷ ds)) s ≡ answers (board owners helpers) cs s ++ ((board owners helpers).answer c (state_after (board owners helpers) cs s) ∷ answers (board owners helpers) ds ((board owners helpers).after c (state_after (board owners helpers) cs s))))
counted-in-order owners helpers cs ds c s = (state-so-far (board owners helpers) cs c s, answer-so-far (board owners helpers) cs ds c s)
