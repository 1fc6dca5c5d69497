-- Demand 3: the hub's calls keep apart, so the order of arrival does not matter.
use Prim.Native.Nat.{ℕ, ◌+◌, ◌≤◌, ◌<◌}
use mathlib.Core.Path.{◌≡◌, refl, sym, ◌∙◌, ap}
use mathlib.Core.Bool.{Bool, true, false}
use mathlib.Core.List.{List, [], ◌∷◌, ◌++◌}
use mathlib.Core.Logic.{inl, inr, ⊎_elim, ◌↔◌}
use native.Mathlib.Omega.{arith}
use borrow.Author.Tests.{eqb-true, eqb-false, eq-eqb, ne_eqb, lt-ltb, le-ltb, ltb-false}
use lib.Dec.{eqb, ltb}
use lib.ListN.{length}
use lib.Seq.{ext_get_or}
use Rattle.std.specs.Prelude.{is_some}
use Rattle.octets.specs.Octet.{octet}
use Rattle.octets.specs.Choice.{when◌then◌else◌}
use Rattle.octets.specs.Answer.{Answer, accepted, refused, ◌then◌}
use Rattle.octets.specs.Filled.{filled}
use Rattle.octets.proofs.Answer.{then_same}
use Rattle.octets.proofs.Choice.{chosen, decided, true-false}
use Rattle.rows.specs.Rows.{is_legal, Legal}
use Rattle.rows.proofs.Legality.{legal-is}
use Rattle.asks.specs.declared.Ask.{Ask}
use Rattle.asks.specs.Asks.{ask_of}
use Rattle.asks.proofs.Reading.{ask-last}
use Rattle.arrival.specs.Calls.{Apart, Has, Separate, Merged, state_after, answers_of, answers, calls_of}
use Rattle.arrival.proofs.Isolation.{own-has, own-answers, own-rows, others-stay, some, merges-size-alike, state-so-far, answer-so-far, merges-answer-alike, merges-end-alike, merge-answers-alone}
use Rattle.rights.specs.Tables.{Tables, tables, sized}
use Rattle.rights.specs.Rights.{has_right, first_foreign_lem}
use Rattle.hub.specs.Rows.{effect}
use Rattle.hub.specs.Replies.{reply_of}
use Rattle.hub.specs.Acts.{allowed_of, grant_of, carried_out, act_of}
use Rattle.rights.specs.Names.{HasRight}
use Rattle.hub.specs.Desk.{desk_of}
use Rattle.hub.specs.Arrival.{Event, heard, ours, Call, party_of, done_by, holds_of, RightOf, hub}
use Rattle.rights.proofs.Meaning.{right_is, found_none}
use Rattle.hub.proofs.Writing.{reply-alike}
use Rattle.hub.proofs.Given.{granted, allow-foreign}
use Rattle.hub.proofs.Called.{row_inside, row-outside, named-or, reaches, states-length, names-right, only-right, call-accepted, act-keeps, answer-or}
use Rattle.hub.proofs.Local.{allowed_same}
use Rattle.hub.proofs.Desk.{desk-length, desk-untouched, desk-alike, desk-rows-alike}

-- ---- who holds a row
module _ (owners helpers : List ℕ) where
  -- who owns a circuit or helps it holds its row
  pub holds-right : (q i : ℕ) → i ≤ 4095 → RightOf owners helpers q i → holds_of owners helpers q i ≡ true
  holds-right q i h r =
      rw (le-ltb 4095 i h)
      (⊎_elim
      (λ e. rw (eq-eqb (octet owners i) q e) refl)
      (λ w. rw (ne_eqb q 0 w.1, eq-eqb (octet helpers i) q w.0) (either (eqb (octet owners i) q)))
      r)
    where
      either : (b : Bool) → (when b then true else true) ≡ true
      either true = refl
      either false = refl

  -- and nobody else does
  pub holds-is : (q i : ℕ) → holds_of owners helpers q i ≡ true → (i ≤ 4095) × RightOf owners helpers q i
  holds-is q i e =
      ⊎_elim
      (λ w. absurd (true-false {t = false} w.1 refl))
      (λ w. (
        ltb-false 4095 i w.0,
        ⊎_elim
            (λ u. inl (eqb-true _ _ u.0))
            (λ u. ⊎_elim (λ z. absurd (true-false {t = false} z.1 refl)) (λ z. inr (eqb-true _ _ z.1, eqb-false q 0 z.0)) (chosen (eqb q 0) u.1))
            (chosen (eqb (octet owners i) q) w.1),
      ))
      (chosen (ltb 4095 i) e)

  -- the condition in the paper's words: no two different parties of the list have a right, as owner
  -- or helper, on the same circuit
  pub separate-says : (cs : List Call) → Separate (hub owners helpers) cs
      ↔ ((c d : Call) → Has (hub owners helpers) c cs → Has (hub owners helpers) d cs → (i : ℕ) → i ≤ 4095 → RightOf owners helpers (party_of owners c.asks) i → RightOf owners helpers (party_of owners d.asks) i → party_of owners c.asks ≡ party_of owners d.asks)
  separate-says cs = (
    λ z c d h k i l p q. z c d h k i (holds-right _ i l p) (holds-right _ i l q),
    λ z c d h k i p q. let u = holds-is _ i p in z c d h k i u.0 u.1 (holds-is _ i q).1,
  )

  -- with no helpers it holds for every list
  pub no-helpers : ((i : ℕ) → octet helpers i ≡ 0) → (cs : List Call) → Separate (hub owners helpers) cs
  no-helpers none cs = (separate-says cs).1 (λ c d h k i l p q. sym (owned i _ p) ∙ owned i _ q)
    where
      owned : (i q : ℕ) → RightOf owners helpers q i → octet owners i ≡ q
      owned i q r = ⊎_elim (λ e. e) (λ w. absurd (w.1 (sym w.0 ∙ none i))) r

  -- a helper that sends nothing is no obstacle: whatever the tables say, the
  -- calls of one party are no two parties' calls
  pub one-party : (q : ℕ) (cs : List Call) → ((c : Call) → Has (hub owners helpers) c cs → party_of owners c.asks ≡ q) → Separate (hub owners helpers) cs
  one-party q cs all c d h k i p r = all c h ∙ sym (all d k)

  -- a desk call's circuit is its party's
  desk-holds : (circuit : ℕ) (set : Bool) → circuit ≤ 4095 → holds_of owners helpers (party_of owners (ours circuit set)) circuit ≡ true
  desk-holds circuit set h = holds-right (party_of owners (ours circuit set)) circuit h (inl (rw (le-ltb 4095 circuit h) refl))

  -- a sender's right is its party's
  sender-right : (states : List ℕ) (sender c : ℕ) → HasRight (tables states owners helpers) sender c → RightOf owners helpers sender c
  sender-right states sender c r = ⊎_elim (λ w. inl w.0) (λ w. inr w) r

-- ---- what a call is granted depends on its sender's rows alone
module _ (owners helpers : List ℕ) (sender : ℕ) (m : List ℕ) (s t : List ℕ) (long : length s ≡ length t) (agree : (i : ℕ) → holds_of owners helpers sender i ≡ true → octet s i ≡ octet t i) where
  allowed-alike : (room : ℕ) (a : Ask) → a.circuit + a.range ≤ 4095 → allowed_of (tables s owners helpers) sender m room a ≡ allowed_of (tables t owners helpers) sender m room a
  allowed-alike room a last = go (is_some (first_foreign_lem owners helpers sender a.circuit (a.range + 1))) refl
    where
      go : (b : Bool) → is_some (first_foreign_lem owners helpers sender a.circuit (a.range + 1)) ≡ b → allowed_of (tables s owners helpers) sender m room a ≡ allowed_of (tables t owners helpers) sender m room a
      go true e = sym (allow-foreign (tables s owners helpers) sender m room a e) ∙ allow-foreign (tables t owners helpers) sender m room a e
      go false e =
          allowed_same (tables s owners helpers) (tables t owners helpers) sender m room a
          (λ c n.
          let w = right_is (tables s owners helpers) sender c (found_none (has_right owners helpers sender) a.circuit (a.range + 1) e c n.0 (omega (arith, n.1))) in
          (agree c (holds-right owners helpers sender c (omega (arith, n.1)) (sender-right owners helpers s sender c w)), refl, refl))

  granted-alike : (room : ℕ) → grant_of (tables s owners helpers) sender m room ≡ grant_of (tables t owners helpers) sender m room
  unfolding grant_of
  granted-alike room =
      ap (λ n. when (when eqb n 4096 then (when eqb (length owners) 4096 then eqb (length helpers) 4096 else false) else false) then (ask_of m then allowed_of (tables s owners helpers) sender m room) else refused 16 0) long
      ∙ ap (λ (x : Answer Ask). when sized (tables t owners helpers) then x else refused 16 0) (then_same (ask_of m) refl (λ a e. allowed-alike room a (ask-last m a e)))

  module _ (buffer : List ℕ) where
    rows_alike : (g : Answer Ask) → grant_of (tables s owners helpers) sender m (length buffer) ≡ g → (i : ℕ) → holds_of owners helpers sender i ≡ true → octet (carried_out (tables s owners helpers) m buffer g).states i ≡ octet (carried_out (tables t owners helpers) m buffer g).states i
    rows_alike (refused n at) e i z = agree i z
    rows_alike (accepted a) e i z =
        let g = granted (tables s owners helpers) sender m (length buffer) a e in
        let r = reaches (tables s owners helpers) sender m buffer a g in
        ⊎_elim
        (λ n. row_inside m a s i n (omega (arith, g.states-sized)) ∙ ap (effect m a i) (agree i z) ∙ sym (row_inside m a t i n (omega (arith, g.states-sized, long))))
        (λ h. row-outside m a s i h ∙ agree i z ∙ sym (row-outside m a t i h))
        (named-or a i)

    -- the answer is from the sender's rows alone
    reply-back : (a : Ask) → grant_of (tables s owners helpers) sender m (length buffer) ≡ accepted a → reply_of s m a ≡ reply_of t m a
    reply-back a e =
        let g = granted (tables s owners helpers) sender m (length buffer) a e in
        let r = reaches (tables s owners helpers) sender m buffer a g in
        reply-alike s t m a (omega (arith, g.states-sized)) (omega (arith, g.states-sized, long))
        (λ c n. agree c (holds-right owners helpers sender c (omega (arith, n.1)) (sender-right owners helpers s sender c (names-right (tables s owners helpers) sender m buffer a g c n))))

    same_back : (g : Answer Ask) → grant_of (tables s owners helpers) sender m (length buffer) ≡ g → ((carried_out (tables s owners helpers) m buffer g).answer ≡ (carried_out (tables t owners helpers) m buffer g).answer) × ((carried_out (tables s owners helpers) m buffer g).buffer ≡ (carried_out (tables t owners helpers) m buffer g).buffer)
    same_back (accepted a) e = (ap (λ (o : List ℕ). accepted (length o)) (reply-back a e), ap (λ (o : List ℕ). filled o buffer) (reply-back a e))
    same_back (refused n at) e = (refl, refl)

    pub acts-alike : ((act_of (tables s owners helpers) sender m buffer).answer ≡ (act_of (tables t owners helpers) sender m buffer).answer)
        × ((act_of (tables s owners helpers) sender m buffer).buffer ≡ (act_of (tables t owners helpers) sender m buffer).buffer)
        × ((i : ℕ) → holds_of owners helpers sender i ≡ true → octet (act_of (tables s owners helpers) sender m buffer).states i ≡ octet (act_of (tables t owners helpers) sender m buffer).states i)
    unfolding act_of
    acts-alike =
        let g = grant_of (tables s owners helpers) sender m (length buffer) in
        let q = granted-alike (length buffer) in (
          (same_back (grant_of (tables s owners helpers) sender m (length buffer)) refl).0 ∙ ap (λ x. (carried_out (tables t owners helpers) m buffer x).answer) q,
          (same_back (grant_of (tables s owners helpers) sender m (length buffer)) refl).1 ∙ ap (λ x. (carried_out (tables t owners helpers) m buffer x).buffer) q,
          λ i z. rows_alike (grant_of (tables s owners helpers) sender m (length buffer)) refl i z ∙ ap (λ x. octet (carried_out (tables t owners helpers) m buffer x).states i) q,
        )

-- a message leaves the rows that its sender does not hold
message-keeps : (owners helpers : List ℕ) (sender : ℕ) (m buffer s : List ℕ) (i : ℕ) → holds_of owners helpers sender i ≡ false → octet (act_of (tables s owners helpers) sender m buffer).states i ≡ octet s i
message-keeps owners helpers sender m buffer s i z =
    let T = tables s owners helpers in
    ⊎_elim
    (λ e.
    let d = call-accepted T sender m buffer e.0 e.1 in
    let r = reaches T sender m buffer d.ask d.allowed in
    ap (λ (l : List ℕ). octet l i) d.rows
    ∙ ⊎_elim
    (λ n. absurd (true-false (holds-right owners helpers sender i (omega (arith, n.1)) (sender-right owners helpers s sender i (names-right T sender m buffer d.ask d.allowed i n))) z))
    (λ h. row-outside m d.ask s i h)
    (named-or d.ask i))
    (λ e. ap (λ (l : List ℕ). octet l i) (act-keeps T sender m buffer e.0 e.1 e.2).0)
    (answer-or T sender m buffer)

-- ---- both kinds of call
module _ (owners helpers : List ℕ) where
  -- a call keeps the table's length
  pub done-length : (a : Event) (buffer s : List ℕ) → length (done_by owners helpers a buffer s).states ≡ length s
  done-length (heard sender m) buffer s = states-length (tables s owners helpers) sender m buffer
  done-length (ours circuit set) buffer s = desk-length s circuit set buffer

  -- what it answers, and what it leaves on its party's rows, depends on those rows alone
  pub done-alike : (a : Event) (s t : List ℕ) → length s ≡ length t → ((i : ℕ) → holds_of owners helpers (party_of owners a) i ≡ true → octet s i ≡ octet t i) → (buffer : List ℕ)
      → ((done_by owners helpers a buffer s).answer ≡ (done_by owners helpers a buffer t).answer)
      × ((done_by owners helpers a buffer s).buffer ≡ (done_by owners helpers a buffer t).buffer)
      × ((i : ℕ) → holds_of owners helpers (party_of owners a) i ≡ true → octet (done_by owners helpers a buffer s).states i ≡ octet (done_by owners helpers a buffer t).states i)
  done-alike (heard sender m) s t long agree buffer = acts-alike owners helpers sender m s t long agree buffer
  done-alike (ours circuit set) s t long agree buffer =
      let own : circuit ≤ 4095 → octet s circuit ≡ octet t circuit = λ h. agree circuit (desk-holds owners helpers circuit set h) in
      let w = desk-alike s t circuit set buffer long own in
      (w.0, w.1, λ i z. desk-rows-alike s t circuit set buffer long own i (agree i z))

  -- and it leaves the rows that its party does not hold
  pub keeps-others : (a : Event) (buffer s : List ℕ) (i : ℕ) → holds_of owners helpers (party_of owners a) i ≡ false → octet (done_by owners helpers a buffer s).states i ≡ octet s i
  keeps-others (heard sender m) buffer s i z = message-keeps owners helpers sender m buffer s i z
  keeps-others (ours circuit set) buffer s i z =
      desk-untouched s circuit set buffer i (λ q h. true-false (desk-holds owners helpers circuit set h) (ap (holds_of owners helpers (party_of owners (ours circuit set))) (sym q) ∙ z))

-- the two facts, for every table, buffer, sender number and circuit, 16 and illegal rows included
pub hub-apart : (owners helpers : List ℕ) → Apart (hub owners helpers)
hub-apart owners helpers = record {
  sees = λ c s t a.
      let long : length s ≡ length t = cons_same a.0 in
      let y = done-alike owners helpers c.asks s t long a.1 c.buffer in (
        λ i. record { answer = y.0 i; buffer = y.1 i },
        (ap (λ (n : ℕ). n ∷ []) (done-length owners helpers c.asks c.buffer s ∙ long ∙ sym (done-length owners helpers c.asks c.buffer t)), y.2),
      );
  keeps = λ c s. (ap (λ (n : ℕ). n ∷ []) (done-length owners helpers c.asks c.buffer s), λ i z. keeps-others owners helpers c.asks c.buffer s i z);
}
  where
    cons_same : {a b : ℕ} → a ∷ [] ≡ b ∷ [] → a ≡ b
    cons_same e = cc

-- for every list whose parties have no right in common, and every party: its answers in the run of
-- the whole list are its answers in the run of its own calls alone, one by one
pub party-answers-alone : (owners helpers : List ℕ) (cs : List Call) → Separate (hub owners helpers) cs → (party : ℕ) (s : List ℕ) → answers_of (hub owners helpers) party cs s ≡ answers (hub owners helpers) (calls_of (hub owners helpers) party cs) s
party-answers-alone owners helpers cs z party s = own-answers (hub owners helpers) (hub-apart owners helpers) cs z party s

-- a row on which a party of the list has a right ends as it does in the run
-- of that party's calls alone
pub rows-end-alone : (owners helpers : List ℕ) (cs : List Call) → Separate (hub owners helpers) cs → (d : Call) → Has (hub owners helpers) d cs → (i : ℕ) → i ≤ 4095 → RightOf owners helpers (party_of owners d.asks) i → (s : List ℕ)
    → octet (state_after (hub owners helpers) cs s) i ≡ octet (state_after (hub owners helpers) (calls_of (hub owners helpers) (party_of owners d.asks) cs) s) i
rows-end-alone owners helpers cs z d h i l r s = own-rows (hub owners helpers) (hub-apart owners helpers) cs z d h i (holds-right owners helpers _ i l r) s

-- a row on which no party of the list has a right stays
pub unheld-rows-stay : (owners helpers : List ℕ) (cs : List Call) (i : ℕ) → ((d : Call) → Has (hub owners helpers) d cs → RightOf owners helpers (party_of owners d.asks) i → ⊥) → (s : List ℕ) → octet (state_after (hub owners helpers) cs s) i ≡ octet s i
unheld-rows-stay owners helpers cs i out s = others-stay (hub owners helpers) (hub-apart owners helpers) cs i (λ d h. unheld d (out d h)) s
  where
    unheld : (d : Call) → (RightOf owners helpers (party_of owners d.asks) i → ⊥) → holds_of owners helpers (party_of owners d.asks) i ≡ false
    unheld d n = ⊎_elim (λ t. absurd (n (holds-is owners helpers (party_of owners d.asks) i t).1)) (λ t. t) (decided (holds_of owners helpers (party_of owners d.asks) i))

-- with no helpers each row ends as it does in the run of its owner's calls alone
pub owned-rows-end-alone : (owners helpers : List ℕ) → ((i : ℕ) → octet helpers i ≡ 0) → (cs : List Call) (i : ℕ) (s : List ℕ)
    → octet (state_after (hub owners helpers) cs s) i ≡ octet (state_after (hub owners helpers) (calls_of (hub owners helpers) (octet owners i) cs) s) i
owned-rows-end-alone owners helpers none cs i s =
    let z = no-helpers owners helpers none cs in
    ⊎_elim
    (λ w.
    let o : octet owners i ≡ party_of owners w.0.asks = ⊎_elim (λ e. e) (λ k. absurd (k.1 (sym k.0 ∙ none i))) (holds-is owners helpers (party_of owners w.0.asks) i w.2).1 in
    own-rows (hub owners helpers) (hub-apart owners helpers) cs z w.0 w.1 i w.2 s
    ∙ ap (λ (q : ℕ). octet (state_after (hub owners helpers) (calls_of (hub owners helpers) q cs) s) i) (sym o))
    (λ n.
    others-stay (hub owners helpers) (hub-apart owners helpers) cs i n s
    ∙ sym (others-stay (hub owners helpers) (hub-apart owners helpers) (calls_of (hub owners helpers) (octet owners i) cs) i (λ d h. n d (own-has (hub owners helpers) cs (octet owners i) d h).0) s))
    (some (hub owners helpers) (hub-apart owners helpers) cs i)

-- no desk call of the list is on circuit i
abbrev pub NoDesk : ℕ → List Call → Type 0
NoDesk i cs = (circuit : ℕ) (set : Bool) (buffer : List ℕ) → Has (hub [] []) (record { asks = ours circuit set; buffer = buffer }) cs → circuit ≡ i → ⊥

-- a row that nobody owns or helps is changed by no message: it stays where no
-- desk call is on its circuit
pub nobodys-rows-stay : (owners helpers : List ℕ) (cs : List Call) (i : ℕ) (s : List ℕ) → octet owners i ≡ 0 → octet helpers i ≡ 0 → NoDesk i cs → octet (state_after (hub owners helpers) cs s) i ≡ octet s i
unfolding state_after
nobodys-rows-stay owners helpers [] i s z y out = refl
nobodys-rows-stay owners helpers (c ∷ cs) i s z y out =
    nobodys-rows-stay owners helpers cs i (done_by owners helpers c.asks c.buffer s).states z y (λ circuit set buffer h. out circuit set buffer (inr h)) ∙ step c.asks refl
  where
    step : (a : Event) → c.asks ≡ a → octet (done_by owners helpers a c.buffer s).states i ≡ octet s i
    step (heard sender m) e = only-right (tables s owners helpers) sender m c.buffer i (λ w. ⊎_elim (λ k. k.1 (sym k.0 ∙ z)) (λ k. k.1 (sym k.0 ∙ y)) w)
    step (ours circuit set) e = desk-untouched s circuit set c.buffer i (λ q h. out circuit set c.buffer (inl (λ j. record { asks = sym e j; buffer = c.buffer })) (sym q))

-- and it ends as the desk calls of party 0 make it, whatever was heard
module _ (owners helpers : List ℕ) (i : ℕ) (z : octet owners i ≡ 0) (y : octet helpers i ≡ 0) where
  -- a message leaves it
  unheard : (sender : ℕ) (m buffer s : List ℕ) → octet (act_of (tables s owners helpers) sender m buffer).states i ≡ octet s i
  unheard sender m buffer s = only-right (tables s owners helpers) sender m buffer i (λ w. ⊎_elim (λ k. k.1 (sym k.0 ∙ z)) (λ k. k.1 (sym k.0 ∙ y)) w)

  -- two tables of one length that agree on it agree on it after any call
  one_alike : (a : Event) (buffer s t : List ℕ) → length s ≡ length t → octet s i ≡ octet t i → octet (done_by owners helpers a buffer s).states i ≡ octet (done_by owners helpers a buffer t).states i
  one_alike (heard sender m) buffer s t long e = unheard sender m buffer s ∙ e ∙ sym (unheard sender m buffer t)
  one_alike (ours circuit set) buffer s t long e =
      ⊎_elim
      (λ b. desk-rows-alike s t circuit set buffer long (λ h. ap (octet s) (eqb-true circuit i b) ∙ e ∙ ap (octet t) (sym (eqb-true circuit i b))) i e)
      (λ b. desk-untouched s circuit set buffer i (λ q h. eqb-false circuit i b (sym q)) ∙ e ∙ sym (desk-untouched t circuit set buffer i (λ q h. eqb-false circuit i b (sym q))))
      (decided (eqb circuit i))

  -- a call of another party leaves it
  others-leave : (a : Event) (buffer s : List ℕ) → eqb (party_of owners a) 0 ≡ false → octet (done_by owners helpers a buffer s).states i ≡ octet s i
  others-leave (heard sender m) buffer s n = unheard sender m buffer s
  others-leave (ours circuit set) buffer s n =
      desk-untouched s circuit set buffer i (λ q h. eqb-false (party_of owners (ours circuit set)) 0 n ((rw (le-ltb 4095 circuit h) refl) ∙ ap (octet owners) (sym q) ∙ z))

  ends-alike : (cs : List Call) (s t : List ℕ) → length s ≡ length t → octet s i ≡ octet t i → octet (state_after (hub owners helpers) cs s) i ≡ octet (state_after (hub owners helpers) (calls_of (hub owners helpers) 0 cs) t) i
  unfolding state_after calls_of
  ends-alike [] s t long e = e
  ends-alike (c ∷ cs) s t long e = go (eqb (party_of owners c.asks) 0) refl
      (λ l u. ends-alike cs (done_by owners helpers c.asks c.buffer s).states (done_by owners helpers c.asks c.buffer t).states l u)
      (λ l u. ends-alike cs (done_by owners helpers c.asks c.buffer s).states t l u)
    where
      after : List ℕ → List ℕ
      after x = (done_by owners helpers c.asks c.buffer x).states

      go : (b : Bool) → eqb (party_of owners c.asks) 0 ≡ b
          → (length (after s) ≡ length (after t) → octet (after s) i ≡ octet (after t) i → octet (state_after (hub owners helpers) cs (after s)) i ≡ octet (state_after (hub owners helpers) (calls_of (hub owners helpers) 0 cs) (after t)) i)
          → (length (after s) ≡ length t → octet (after s) i ≡ octet t i → octet (state_after (hub owners helpers) cs (after s)) i ≡ octet (state_after (hub owners helpers) (calls_of (hub owners helpers) 0 cs) t) i)
          → octet (state_after (hub owners helpers) cs (after s)) i ≡ octet (state_after (hub owners helpers) (when b then c ∷ calls_of (hub owners helpers) 0 cs else calls_of (hub owners helpers) 0 cs) t) i
      go true p both one =
          both (done-length owners helpers c.asks c.buffer s ∙ long ∙ sym (done-length owners helpers c.asks c.buffer t)) (one_alike c.asks c.buffer s t long e)
      go false p both one = one (done-length owners helpers c.asks c.buffer s ∙ long) (others-leave c.asks c.buffer s p ∙ e)

  pub nobodys-rows-desk : (cs : List Call) (s : List ℕ) → octet (state_after (hub owners helpers) cs s) i ≡ octet (state_after (hub owners helpers) (calls_of (hub owners helpers) 0 cs) s) i
  nobodys-rows-desk cs s = ends-alike cs s s refl refl

-- where no two different parties of the list have a right on the same circuit, any two merges of
-- the same lists end in the same rows, with the same answer for each call: a desk call counts as a
-- call of its circuit's owner, and party 0 is one more party
pub order-does-not-matter : (owners helpers : List ℕ) (cs ds : List Call) (ls : ℕ → List Call) (s : List ℕ) → Merged (hub owners helpers) cs ls → Merged (hub owners helpers) ds ls → Separate (hub owners helpers) cs
    → (state_after (hub owners helpers) cs s ≡ state_after (hub owners helpers) ds s) × ((party : ℕ) → answers_of (hub owners helpers) party cs s ≡ answers_of (hub owners helpers) party ds s)
order-does-not-matter owners helpers cs ds ls s m n z = (
  ext_get_or 0 (state_after (hub owners helpers) cs s) (state_after (hub owners helpers) ds s)
      (lengths (merges-size-alike (hub owners helpers) (hub-apart owners helpers) cs ds ls m n z s))
      (λ i h. merges-end-alike (hub owners helpers) (hub-apart owners helpers) cs ds ls m n z s i),
  merges-answer-alike (hub owners helpers) (hub-apart owners helpers) cs ds ls m n z s,
)
  where
    lengths : {a b : ℕ} → a ∷ [] ≡ b ∷ [] → a ≡ b
    lengths e = cc

-- with no helpers, for every list: the demand as it was before there were any
pub order-with-no-helpers : (owners helpers : List ℕ) → ((i : ℕ) → octet helpers i ≡ 0) → (cs ds : List Call) (ls : ℕ → List Call) (s : List ℕ) → Merged (hub owners helpers) cs ls → Merged (hub owners helpers) ds ls
    → (state_after (hub owners helpers) cs s ≡ state_after (hub owners helpers) ds s) × ((party : ℕ) → answers_of (hub owners helpers) party cs s ≡ answers_of (hub owners helpers) party ds s)
order-with-no-helpers owners helpers none cs ds ls s m n = order-does-not-matter owners helpers cs ds ls s m n (no-helpers owners helpers none cs)

-- and each party has the answers that it has if the others had sent nothing
pub as-if-alone : (owners helpers : List ℕ) (cs : List Call) (ls : ℕ → List Call) (s : List ℕ) → Merged (hub owners helpers) cs ls → Separate (hub owners helpers) cs → (party : ℕ) → answers_of (hub owners helpers) party cs s ≡ answers (hub owners helpers) (ls party) s
as-if-alone owners helpers cs ls s m z = merge-answers-alone (hub owners helpers) (hub-apart owners helpers) cs ls m z s

-- the calls are those of `act` and `desk_call`: each answers and leaves what the definition says
-- that the function answers and leaves
pub hub-is-act : (owners helpers : List ℕ) (sender : ℕ) (m buffer s : List ℕ) →
    let c : Call = record { asks = heard sender m; buffer = buffer } in
    ((hub owners helpers).party c ≡ sender)
    × (((hub owners helpers).answer c s).answer ≡ (act_of (tables s owners helpers) sender m buffer).answer)
    × (((hub owners helpers).answer c s).buffer ≡ (act_of (tables s owners helpers) sender m buffer).buffer)
    × ((hub owners helpers).after c s ≡ (act_of (tables s owners helpers) sender m buffer).states)
hub-is-act owners helpers sender m buffer s = (refl, refl, refl, refl)

pub hub-is-desk : (owners helpers : List ℕ) (circuit : ℕ) (set : Bool) (buffer s : List ℕ) →
    let c : Call = record { asks = ours circuit set; buffer = buffer } in
    (circuit ≤ 4095 → (hub owners helpers).party c ≡ octet owners circuit)
    × (4095 < circuit → (hub owners helpers).party c ≡ 0)
    × (((hub owners helpers).answer c s).answer ≡ (desk_of s circuit set buffer).answer)
    × (((hub owners helpers).answer c s).buffer ≡ (desk_of s circuit set buffer).buffer)
    × ((hub owners helpers).after c s ≡ (desk_of s circuit set buffer).states)
hub-is-desk owners helpers circuit set buffer s = ((λ h. rw (le-ltb 4095 circuit h) refl), (λ h. rw (lt-ltb 4095 circuit h) refl), refl, refl, refl)

-- the rules at every call, with no condition: the rows after it, and its answer, are those at the
-- rows that the calls before it left
pub rules-in-order : (owners helpers : List ℕ) (cs ds : List Call) (c : Call) (s : List ℕ)
    → (state_after (hub owners helpers) (cs ++ (c ∷ [])) s ≡ (hub owners helpers).after c (state_after (hub owners helpers) cs s))
    × (answers (hub owners helpers) (cs ++ (c ∷ ds)) s ≡ answers (hub owners helpers) cs s ++ ((hub owners helpers).answer c (state_after (hub owners helpers) cs s) ∷ answers (hub owners helpers) ds ((hub owners helpers).after c (state_after (hub owners helpers) cs s))))
rules-in-order owners helpers cs ds c s = (state-so-far (hub owners helpers) cs c s, answer-so-far (hub owners helpers) cs ds c s)

-- a row that is not legal stays: so where 20 alone were looked at before 19,
-- no merge of calls would show it
pub illegal-stays : (T : Tables) (sender : ℕ) (m buffer : List ℕ) (c : ℕ) → (Legal (octet T.states c) → ⊥) → octet (act_of T sender m buffer).states c ≡ octet T.states c
unfolding act_of
illegal-stays T sender m buffer c h = go (grant_of T sender m (length buffer)) refl
  where
    go : (g : Answer Ask) → grant_of T sender m (length buffer) ≡ g → octet (carried_out T m buffer g).states c ≡ octet T.states c
    go (refused n at) e = refl
    go (accepted a) e =
        let g = granted T sender m (length buffer) a e in
        ⊎_elim
        (λ n. absurd (h (legal-is (octet T.states c) (found_none (λ i. is_legal (octet T.states i)) a.circuit (a.range + 1) g.legal c n.0 (omega (arith, n.1))))))
        (λ k. row-outside m a T.states c k)
        (named-or a c)
