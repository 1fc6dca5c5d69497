-- What a call leaves with the totals kept: the totals in the request's words, a refusal keeps all,
-- and the contracts determine all.
use Prim.Native.Nat.{ℕ, ◌+◌, ◌*◌, ◌/◌, ◌≤◌, ◌<◌}
use mathlib.Core.Path.{◌≡◌, refl, sym, ◌∙◌, ap, subst}
use mathlib.Core.Bool.{Bool, true, false}
use mathlib.Core.List.{List}
use mathlib.Core.Logic.{◌⊎◌, ⊎_elim}
use native.Mathlib.Omega.{arith}
use borrow.Author.Tests.{eq-eqb, ne_eqb, eqb-true}
use lib.Dec.{eqb}
use lib.ListN.{length}
use Rattle.std.specs.Prelude.{Result, Ok, Err}
use Rattle.octets.specs.Octet.{octet}
use Rattle.octets.specs.Choice.{when◌then◌else◌}
use Rattle.octets.specs.Answer.{Answer, accepted, refused}
use Rattle.octets.specs.Told.{refusal_number, refusal_place, told}
use Rattle.octets.specs.declared.Refusal.{Refusal}
use Rattle.octets.proofs.Answer.{accepted-same, refused-accepted}
use Rattle.octets.proofs.Told.{told-injective}
use Rattle.totals.specs.Blocks.{block_count_lem, Right, AllRight, recounted}
use native.Mathlib.Decide.{dec_lt}
use Rattle.totals.proofs.Recounted.{length-recounted, recounted-named, recounted-stays, block-or, all-right-stays}
use Rattle.asks.specs.declared.Ask.{Ask}
use Rattle.asks.specs.Asks.{ask_of}
use Rattle.asks.proofs.Reading.{ask-last}
use Rattle.hub.specs.declared.Handled.{Handled}
use Rattle.rights.specs.Tables.{Tables}
use Rattle.hub.specs.Acts.{After, after, act_of}
use Rattle.hub.specs.Desk.{desk_of}
use Rattle.rights.specs.Names.{Names}
use Rattle.hub.specs.Deeds.{deed, Handling, handling, with_circuits, handled_of, unspanned}
use Rattle.hub.proofs.Called.{call-accepted, act-keeps, buffer-length, untouched}
use Rattle.hub.proofs.Desk.{desk-keeps, desk-called, desk-buffer-length, desk-untouched}
use Rattle.hub.proofs.Deeds.{forget}
use Rattle.board.specs.Board.{BoardAfter, board_after, totals_after, keeping, board_of, alone, desk_board_of}

-- ---- a call on rows, with the totals kept, whatever the call is
module _ (states totals buffer : List ℕ) (named : Answer ℕ → Answer Handled) (r : After) where
  -- there are not 64 totals
  pub kept-short : (length totals ≡ 64 → ⊥) → board_after (refused 16 0) states totals buffer ≡ keeping states totals buffer named r
  kept-short n = rw (ne_eqb _ _ n) refl

  -- there are
  pub kept-so : length totals ≡ 64 → board_after r.answer r.states (totals_after r.states (named r.answer) totals) r.buffer ≡ keeping states totals buffer named r
  kept-so e = rw (eq-eqb _ _ e) refl

  -- an accepted one has 64 totals, and its answer is the call's
  pub kept-accepted : (n : ℕ) → (keeping states totals buffer named r).answer ≡ accepted n → (length totals ≡ 64) × (r.answer ≡ accepted n)
  kept-accepted n e = go (eqb (length totals) 64) refl e
    where
      go : (t : Bool) → eqb (length totals) 64 ≡ t → (when t then board_after r.answer r.states (totals_after r.states (named r.answer) totals) r.buffer else board_after (refused 16 0) states totals buffer).answer ≡ accepted n → (length totals ≡ 64) × (r.answer ≡ accepted n)
      go true q h = (eqb-true _ _ q, h)
      go false q h = absurd (refused-accepted h)

  -- the totals keep their number
  pub kept-length : length (keeping states totals buffer named r).totals ≡ length totals
  kept-length = go (eqb (length totals) 64) (named r.answer)
    where
      go : (t : Bool) (x : Answer Handled) → length (when t then board_after r.answer r.states (totals_after r.states x totals) r.buffer else board_after (refused 16 0) states totals buffer).totals ≡ length totals
      go true (accepted d) = length-recounted r.states d.first d.last totals
      go true (refused n at) = refl
      go false x = refl

-- ---- a message
-- what an accepted message names, as first and last circuit
pub spanned-is : (m : List ℕ) (a : Ask) (n : ℕ) → ask_of m ≡ accepted a → with_circuits (ask_of m) (accepted n) ≡ accepted (deed n a.circuit (a.circuit + a.range))
spanned-is m a n e = ap (λ (g : Answer Ask). with_circuits g (accepted n)) e

module _ (T : Tables) (totals : List ℕ) (sender : ℕ) (m buffer : List ℕ) where
  -- where the totals are 64 the answer, the rows and the buffer are the hub's
  pub board-acts : length totals ≡ 64 → ((board_of T totals sender m buffer).answer ≡ (act_of T sender m buffer).answer) × ((board_of T totals sender m buffer).states ≡ (act_of T sender m buffer).states) × ((board_of T totals sender m buffer).buffer ≡ (act_of T sender m buffer).buffer)
  unfolding board_of
  board-acts e =
      let k = sym (kept-so T.states totals buffer (with_circuits (ask_of m)) (act_of T sender m buffer) e) in
      (ap (λ (x : BoardAfter). x.answer) k, ap (λ (x : BoardAfter). x.states) k, ap (λ (x : BoardAfter). x.buffer) k)

  -- what an accepted message leaves in the totals
  pub board-totals : (n : ℕ) → (board_of T totals sender m buffer).answer ≡ accepted n
      → (a : Ask) × (ask_of m ≡ accepted a) × (length totals ≡ 64) × ((board_of T totals sender m buffer).totals ≡ recounted (board_of T totals sender m buffer).states a.circuit (a.circuit + a.range) totals)
  unfolding board_of
  board-totals n e =
      let w = kept-accepted T.states totals buffer (with_circuits (ask_of m)) (act_of T sender m buffer) n e in
      let d = call-accepted T sender m buffer n w.1 in
      let q = d.allowed.asks in
      let k = sym (kept-so T.states totals buffer (with_circuits (ask_of m)) (act_of T sender m buffer) w.0) in
      let x = d.ask in (
        x,
        q,
        w.0,
        ap (λ (y : BoardAfter). y.totals) k
            ∙ ap (λ (g : Answer Handled). totals_after (act_of T sender m buffer).states g totals) (ap (with_circuits (ask_of m)) w.1 ∙ spanned-is m x n q)
            ∙ ap (λ (l : List ℕ). recounted l x.circuit (x.circuit + x.range) totals) (sym (ap (λ (y : BoardAfter). y.states) k)),
      )

  -- a refusal changes no row, no total and no octet of the answer buffer
  pub board-keeps : (n at : ℕ) → (board_of T totals sender m buffer).answer ≡ refused n at → ((board_of T totals sender m buffer).states ≡ T.states) × ((board_of T totals sender m buffer).totals ≡ totals) × ((board_of T totals sender m buffer).buffer ≡ buffer)
  unfolding board_of
  board-keeps n at e = go (eqb (length totals) 64) (act_of T sender m buffer) (ask_of m) (act-keeps T sender m buffer n at) e
    where
      go : (t : Bool) (r : After) (g : Answer Ask) → (r.answer ≡ refused n at → (r.states ≡ T.states) × (r.buffer ≡ buffer)) →
          let x = when t then board_after r.answer r.states (totals_after r.states (with_circuits g r.answer) totals) r.buffer else board_after (refused 16 0) T.states totals buffer in
          x.answer ≡ refused n at → (x.states ≡ T.states) × (x.totals ≡ totals) × (x.buffer ≡ buffer)
      go true r g k h = ((k h).0, ap (λ (y : Answer ℕ). totals_after r.states (with_circuits g y) totals) h ∙ never g, (k h).1)
        where
          never : (g : Answer Ask) → totals_after r.states (with_circuits g (refused n at)) totals ≡ totals
          never (accepted a) = refl
          never (refused k place) = refl
      go false r g k h = (refl, refl, refl)

  -- the answer buffer keeps its length
  pub board-buffer-length : length (board_of T totals sender m buffer).buffer ≡ length buffer
  unfolding board_of
  board-buffer-length = go (eqb (length totals) 64) (act_of T sender m buffer) (buffer-length T sender m buffer)
    where
      go : (t : Bool) (r : After) → length r.buffer ≡ length buffer → length (when t then board_after r.answer r.states (totals_after r.states (with_circuits (ask_of m) r.answer) totals) r.buffer else board_after (refused 16 0) T.states totals buffer).buffer ≡ length buffer
      go true r e = e
      go false r e = refl

  -- after an accepted message each block that holds a named circuit has its total equal to its
  -- rows' count, whatever it was
  pub named-totals-right : (n : ℕ) → (board_of T totals sender m buffer).answer ≡ accepted n → (c : ℕ) → Names m c → Right (board_of T totals sender m buffer).states (board_of T totals sender m buffer).totals (c / 64)
  named-totals-right n e c w =
      let d = board-totals n e in
      let a = d.0 in
      let same : w.0 ≡ a = accepted-same (sym w.1 ∙ d.1) in
      let last = ask-last m a d.1 in
      let lo : a.circuit ≤ c = omega (arith, w.2.0, ap (λ (x : Ask). x.circuit) same) in
      let hi : c ≤ a.circuit + a.range = omega (arith, w.2.1, ap (λ (x : Ask). x.circuit) same, ap (λ (x : Ask). x.range) same) in
      ap (λ (l : List ℕ). octet l (c / 64)) d.3
      ∙ recounted-named (board_of T totals sender m buffer).states a.circuit (a.circuit + a.range) totals c lo hi (omega (arith, last, d.2))

  -- and every other total stays
  pub other-totals-stay : (k : ℕ) → ((c : ℕ) → Names m c → c / 64 ≡ k → ⊥) → octet (board_of T totals sender m buffer).totals k ≡ octet totals k
  other-totals-stay k out = go (board_of T totals sender m buffer).answer refl
    where
      go : (x : Answer ℕ) → (board_of T totals sender m buffer).answer ≡ x → octet (board_of T totals sender m buffer).totals k ≡ octet totals k
      go (accepted n) e =
          let d = board-totals n e in
          let a = d.0 in
          ap (λ (t : List ℕ). octet t k) d.3
          ∙ recounted-stays (board_of T totals sender m buffer).states a.circuit (a.circuit + a.range) totals k (outside a d.1)
        where
          between : (a : Ask) → ask_of m ≡ accepted a → a.circuit / 64 ≤ k → k ≤ (a.circuit + a.range) / 64 → ⊥
          between a q lo hi = within (dec_lt (64 * k) a.circuit)
            where
              within : Dec (64 * k < a.circuit) → ⊥
              within (yes l) = out a.circuit (a, q, (omega arith, omega arith)) (omega (arith, lo, l))
              within (no l) = out (64 * k) (a, q, (omega arith, omega (arith, hi))) (omega arith)

          outside : (a : Ask) → ask_of m ≡ accepted a → (k < a.circuit / 64) ⊎ ((a.circuit + a.range) / 64 < k)
          outside a q =
              ⊎_elim
              (λ w. absurd (between a q w.0 w.1))
              (λ w. w)
              (block-or a.circuit (a.circuit + a.range) k)
      go (refused n at) e = ap (λ (t : List ℕ). octet t k) (board-keeps n at e).1

  -- where every total was right, every total is right afterwards
  pub board-all-right : AllRight T.states totals → AllRight (board_of T totals sender m buffer).states (board_of T totals sender m buffer).totals
  board-all-right all = go (board_of T totals sender m buffer).answer refl
    where
      go : (x : Answer ℕ) → (board_of T totals sender m buffer).answer ≡ x → AllRight (board_of T totals sender m buffer).states (board_of T totals sender m buffer).totals
      go (accepted n) e =
          let d = board-totals n e in
          let a = d.0 in
          subst (λ (l : List ℕ). AllRight (board_of T totals sender m buffer).states l) (sym d.3)
          (all-right-stays T.states (board_of T totals sender m buffer).states a.circuit (a.circuit + a.range) totals d.2
          (λ i o. ap (λ (l : List ℕ). octet l i) (board-acts d.2).1 ∙ untouched T sender m buffer i (λ w.
          let same : w.0 ≡ a = accepted-same (sym w.1 ∙ d.1) in
          ⊎_elim
          (λ l. omega (arith, l, w.2.0, ap (λ (x : Ask). x.circuit) same))
          (λ l. omega (arith, l, w.2.1, ap (λ (x : Ask). x.circuit) same, ap (λ (x : Ask). x.range) same))
          o))
          all)
      go (refused n at) e = let k = board-keeps n at e in λ i h. ap (λ (l : List ℕ). octet l i) k.1 ∙ all i h ∙ ap (λ (l : List ℕ). block_count_lem l i) (sym k.0)

  -- ---- as the code comes to it
  pub board-short : (length totals ≡ 64 → ⊥) → board_after (refused 16 0) T.states totals buffer ≡ board_of T totals sender m buffer
  unfolding board_of
  board-short n = kept-short T.states totals buffer (with_circuits (ask_of m)) (act_of T sender m buffer) n

  module _ (sixty-four : length totals ≡ 64) (r : Result Handled Refusal) (states left : List ℕ) (e : handling (told r) states left ≡ handled_of T sender m buffer) where
    handled-kept : {h : Answer Handled} → told r ≡ h → board_after (unspanned h) states (totals_after states h totals) left ≡ board_of T totals sender m buffer
    unfolding board_of handled_of
    handled-kept {h} q =
        ap (λ (x : Handling). board_after (unspanned x.answer) x.states (totals_after x.states x.answer totals) x.buffer) (ap (λ (x : Answer Handled). handling x states left) (sym q) ∙ e)
        ∙ ap (λ (x : Answer ℕ). board_after x (act_of T sender m buffer).states (totals_after (act_of T sender m buffer).states (with_circuits (ask_of m) (act_of T sender m buffer).answer) totals) (act_of T sender m buffer).buffer) (forget T sender m buffer (ask_of m) (act_of T sender m buffer).answer)
        ∙ kept-so T.states totals buffer (with_circuits (ask_of m)) (act_of T sender m buffer) sixty-four

    pub board-refused : (why : Refusal) → r ≡ Err why → board_after (refused (refusal_number why) (refusal_place why)) states totals left ≡ board_of T totals sender m buffer
    board-refused why q = handled-kept (ap told q)

    pub board-done : (d : Handled) (totals' : List ℕ) → r ≡ Ok d → totals' ≡ recounted states d.first d.last totals → board_after (accepted d.count) states totals' left ≡ board_of T totals sender m buffer
    board-done d totals' q t = ap (λ (l : List ℕ). board_after (accepted d.count) states l left) t ∙ handled-kept (ap told q)

-- ---- a desk call
module _ (states totals : List ℕ) (circuit : ℕ) (set : Bool) (buffer : List ℕ) where
  -- where the totals are 64 the answer, the rows and the buffer are the hub's
  pub desk-board-acts : length totals ≡ 64
      → ((desk_board_of states totals circuit set buffer).answer ≡ (desk_of states circuit set buffer).answer) × ((desk_board_of states totals circuit set buffer).states ≡ (desk_of states circuit set buffer).states) × ((desk_board_of states totals circuit set buffer).buffer ≡ (desk_of states circuit set buffer).buffer)
  unfolding desk_board_of
  desk-board-acts e =
      let k = sym (kept-so states totals buffer (alone circuit) (desk_of states circuit set buffer) e) in
      (ap (λ (x : BoardAfter). x.answer) k, ap (λ (x : BoardAfter). x.states) k, ap (λ (x : BoardAfter). x.buffer) k)

  -- what an accepted one leaves in the totals
  pub desk-board-totals : (n : ℕ) → (desk_board_of states totals circuit set buffer).answer ≡ accepted n
      → (circuit ≤ 4095) × (length totals ≡ 64) × ((desk_board_of states totals circuit set buffer).totals ≡ recounted (desk_board_of states totals circuit set buffer).states circuit circuit totals)
  unfolding desk_board_of
  desk-board-totals n e =
      let w = kept-accepted states totals buffer (alone circuit) (desk_of states circuit set buffer) n e in
      let k = sym (kept-so states totals buffer (alone circuit) (desk_of states circuit set buffer) w.0) in (
        (desk-called states circuit set buffer n w.1).granted.known,
        w.0,
        ap (λ (y : BoardAfter). y.totals) k
            ∙ ap (λ (g : Answer ℕ). totals_after (desk_of states circuit set buffer).states (alone circuit g) totals) w.1
            ∙ ap (λ (l : List ℕ). recounted l circuit circuit totals) (sym (ap (λ (y : BoardAfter). y.states) k)),
      )

  -- a refusal changes no row, no total and no octet of the answer buffer
  pub desk-board-keeps : (n at : ℕ) → (desk_board_of states totals circuit set buffer).answer ≡ refused n at
      → ((desk_board_of states totals circuit set buffer).states ≡ states) × ((desk_board_of states totals circuit set buffer).totals ≡ totals) × ((desk_board_of states totals circuit set buffer).buffer ≡ buffer)
  unfolding desk_board_of
  desk-board-keeps n at e = go (eqb (length totals) 64) (desk_of states circuit set buffer) (desk-keeps states circuit set buffer n at) e
    where
      go : (t : Bool) (r : After) → (r.answer ≡ refused n at → (r.states ≡ states) × (r.buffer ≡ buffer)) →
          let x = when t then board_after r.answer r.states (totals_after r.states (alone circuit r.answer) totals) r.buffer else board_after (refused 16 0) states totals buffer in
          x.answer ≡ refused n at → (x.states ≡ states) × (x.totals ≡ totals) × (x.buffer ≡ buffer)
      go true r k h = ((k h).0, ap (λ (y : Answer ℕ). totals_after r.states (alone circuit y) totals) h, (k h).1)
      go false r k h = (refl, refl, refl)

  -- the answer buffer keeps its length
  pub desk-board-buffer-length : length (desk_board_of states totals circuit set buffer).buffer ≡ length buffer
  unfolding desk_board_of
  desk-board-buffer-length = go (eqb (length totals) 64) (desk_of states circuit set buffer) (desk-buffer-length states circuit set buffer)
    where
      go : (t : Bool) (r : After) → length r.buffer ≡ length buffer → length (when t then board_after r.answer r.states (totals_after r.states (alone circuit r.answer) totals) r.buffer else board_after (refused 16 0) states totals buffer).buffer ≡ length buffer
      go true r e = e
      go false r e = refl

  -- after an accepted desk call the total of its circuit's block is the count
  -- of its rows, whatever it was
  pub desk-total-right : (n : ℕ) → (desk_board_of states totals circuit set buffer).answer ≡ accepted n → Right (desk_board_of states totals circuit set buffer).states (desk_board_of states totals circuit set buffer).totals (circuit / 64)
  desk-total-right n e =
      let d = desk-board-totals n e in
      ap (λ (l : List ℕ). octet l (circuit / 64)) d.2
      ∙ recounted-named (desk_board_of states totals circuit set buffer).states circuit circuit totals circuit (omega arith) (omega arith) (omega (arith, d.0, d.1))

  -- and every other total stays
  pub desk-totals-stay : (k : ℕ) → (circuit / 64 ≡ k → ⊥) → octet (desk_board_of states totals circuit set buffer).totals k ≡ octet totals k
  desk-totals-stay k out = go (desk_board_of states totals circuit set buffer).answer refl
    where
      go : (x : Answer ℕ) → (desk_board_of states totals circuit set buffer).answer ≡ x → octet (desk_board_of states totals circuit set buffer).totals k ≡ octet totals k
      go (accepted n) e =
          ap (λ (t : List ℕ). octet t k) (desk-board-totals n e).2
          ∙ recounted-stays (desk_board_of states totals circuit set buffer).states circuit circuit totals k (⊎_elim (λ w. absurd (out (omega (arith, w.0, w.1)))) (λ w. w) (block-or circuit circuit k))
      go (refused n at) e = ap (λ (t : List ℕ). octet t k) (desk-board-keeps n at e).1

  -- where every total was right, every total is right afterwards
  pub desk-all-right : AllRight states totals → AllRight (desk_board_of states totals circuit set buffer).states (desk_board_of states totals circuit set buffer).totals
  desk-all-right all = go (desk_board_of states totals circuit set buffer).answer refl
    where
      go : (x : Answer ℕ) → (desk_board_of states totals circuit set buffer).answer ≡ x → AllRight (desk_board_of states totals circuit set buffer).states (desk_board_of states totals circuit set buffer).totals
      go (accepted n) e =
          let d = desk-board-totals n e in
          subst (λ (l : List ℕ). AllRight (desk_board_of states totals circuit set buffer).states l) (sym d.2)
          (all-right-stays states (desk_board_of states totals circuit set buffer).states circuit circuit totals d.1
          (λ i o. ap (λ (l : List ℕ). octet l i) (desk-board-acts d.1).1 ∙ desk-untouched states circuit set buffer i (λ q h. ⊎_elim (λ l. omega (arith, l, q)) (λ l. omega (arith, l, q)) o))
          all)
      go (refused n at) e = let k = desk-board-keeps n at e in λ i h. ap (λ (l : List ℕ). octet l i) k.1 ∙ all i h ∙ ap (λ (l : List ℕ). block_count_lem l i) (sym k.0)

  -- ---- as the code comes to it
  pub desk-board-short : (length totals ≡ 64 → ⊥) → board_after (refused 16 0) states totals buffer ≡ desk_board_of states totals circuit set buffer
  unfolding desk_board_of
  desk-board-short n = kept-short states totals buffer (alone circuit) (desk_of states circuit set buffer) n

  module _ (sixty-four : length totals ≡ 64) (r : Result ℕ Refusal) (rows left : List ℕ) (e : after (told r) rows left ≡ desk_of states circuit set buffer) where
    desk-kept : {x : Answer ℕ} → told r ≡ x → board_after x rows (totals_after rows (alone circuit x) totals) left ≡ desk_board_of states totals circuit set buffer
    unfolding desk_board_of
    desk-kept {x} q =
        ap (λ (y : After). board_after y.answer y.states (totals_after y.states (alone circuit y.answer) totals) y.buffer) (ap (λ (y : Answer ℕ). after y rows left) (sym q) ∙ e)
        ∙ kept-so states totals buffer (alone circuit) (desk_of states circuit set buffer) sixty-four

    pub desk-board-refused : (why : Refusal) → r ≡ Err why → board_after (refused (refusal_number why) (refusal_place why)) rows totals left ≡ desk_board_of states totals circuit set buffer
    desk-board-refused why q = desk-kept (ap told q)

    pub desk-board-done : (n : ℕ) (totals' : List ℕ) → r ≡ Ok n → totals' ≡ recounted rows circuit circuit totals → board_after (accepted n) rows totals' left ≡ desk_board_of states totals circuit set buffer
    desk-board-done n totals' q t = ap (λ (l : List ℕ). board_after (accepted n) rows l left) t ∙ desk-kept (ap told q)

-- ---- any two answers that a contract allows are equal, with the states, the totals and the answer buffer afterwards
pub board-determined : {x : BoardAfter} (r s : Result ℕ Refusal) (states₁ states₂ totals₁ totals₂ buffer₁ buffer₂ : List ℕ)
    → board_after (told r) states₁ totals₁ buffer₁ ≡ x
    → board_after (told s) states₂ totals₂ buffer₂ ≡ x
    → (r ≡ s) × (states₁ ≡ states₂) × (totals₁ ≡ totals₂) × (buffer₁ ≡ buffer₂)
board-determined r s states₁ states₂ totals₁ totals₂ buffer₁ buffer₂ p q =
    let e = p ∙ sym q in (
      told-injective r s (ap (λ (x : BoardAfter). x.answer) e),
      ap (λ (x : BoardAfter). x.states) e,
      ap (λ (x : BoardAfter). x.totals) e,
      ap (λ (x : BoardAfter). x.buffer) e,
    )
