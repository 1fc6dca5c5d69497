-- The desk call: its faults in order, what it leaves, and that its contract determines all.
use Prim.Native.Nat.{ℕ, ◌+◌, ◌≤◌, ◌<◌}
use mathlib.Core.Path.{◌≡◌, refl, sym, ◌∙◌, ap, subst}
use mathlib.Core.Bool.{Bool, true, false}
use mathlib.Core.List.{List, []}
use mathlib.Core.Logic.{◌⊎◌, inl, inr, ⊎_elim, ◌↔◌}
use native.Mathlib.Omega.{arith}
use borrow.Author.Tests.{eq-eqb, ne_eqb, lt-ltb, le-ltb, ltb-true, ltb-false, eqb-true, eqb-false}
use lib.Dec.{ltb, eqb}
use lib.ListN.{length, take, set as put, length-drop}
use Rattle.std.specs.Prelude.{Result, Ok, Err}
use Rattle.octets.specs.Octet.{octet}
use Rattle.octets.specs.Choice.{when◌then◌else◌}
use Rattle.octets.specs.Answer.{Answer, accepted, refused, ◌then◌}
use Rattle.octets.specs.Faults.{First, None, Judges, fault}
use Rattle.octets.specs.Filled.{Done, done, leaving, filled}
use Rattle.octets.specs.Told.{refusal_number, refusal_place, told}
use Rattle.octets.specs.declared.Refusal.{Refusal}
use Rattle.octets.proofs.Answer.{refused-accepted, accepted-same}
use Rattle.octets.proofs.Applied.{applied-none, applied-more, length-applied, applied-below, applied-past, applied-in}
use Rattle.octets.proofs.Choice.{decided, true-false}
use Rattle.octets.proofs.Faults.{judges-done, judges-there, judges-absent, judges-if, judges-choice}
use Rattle.octets.proofs.Filled.{take-filled}
use Rattle.octets.proofs.Places.{UpTo, up-to-accepted, up-to-refused, up-to-if}
use Rattle.octets.proofs.Told.{told-injective}
use Rattle.isup.specs.Types.{BLO, UBL}
use Rattle.rows.specs.Rows.{is_legal, Legal, local_row}
use Rattle.rows.specs.Rules.{LocallyBlocked}
use Rattle.rows.proofs.Legality.{legal-is, is-legal, local-legal}
use Rattle.rows.proofs.Rules.{local-becomes}
use Rattle.replies.specs.Replies.{notice_of, sent}
use Rattle.replies.specs.Rules.{saying, ReadsAs}
use Rattle.replies.proofs.ReadBack.{notice-reads}
use Rattle.hub.specs.Acts.{After, after}
use Rattle.hub.specs.Desk.{desk_grant, rows_blocked, desk_carried, desk_of, desk_faults}
use Rattle.hub.specs.Rules.{Changes, every, Answers}

-- ---- the faults
-- refused with the first of 16, 9, 20, 13 that is there, and accepted exactly where there is none
pub desk-grant-judges : (states : List ℕ) (circuit room : ℕ) → Judges (desk_grant states circuit room) (desk_faults states circuit room)
unfolding desk_grant
desk-grant-judges states circuit room =
    judges-choice (eqb (length states) 4096)
    (λ t.
    judges-absent _ (λ at h. h.1 (eqb-true _ _ t))
    (judges-if (ltb 4095 circuit)
    (λ u. ltb-true 4095 circuit u)
    (λ u h. omega (arith, ltb-false 4095 circuit u, h))
    (λ u.
    judges-choice (is_legal (octet states circuit))
    (λ l.
    judges-absent _ (λ at h. h.1 (legal-is _ l))
    (judges-if (ltb room 3)
    (λ w. ltb-true room 3 w)
    (λ w h. omega (arith, ltb-false room 3 w, h))
    (λ w. judges-done circuit)))
    (λ l. judges-there (fault 20 0 (Legal (octet states circuit) → ⊥)) _ 0 (refl, λ h. true-false (is-legal _ h) l) (λ at h. h.0)))))
    (λ t. judges-there (fault 16 0 (length states ≡ 4096 → ⊥)) _ 0 (refl, eqb-false _ _ t) (λ at h. h.0))

-- what is known of what is granted
pub record Granted (states : List ℕ) (circuit room c : ℕ) : Type 0 where
  pub same : c ≡ circuit
  pub sized : length states ≡ 4096
  pub known : circuit ≤ 4095
  pub legal : Legal (octet states circuit)
  pub room-enough : 3 ≤ room

pub desk-granted : (states : List ℕ) (circuit room c : ℕ) → desk_grant states circuit room ≡ accepted c → Granted states circuit room c
unfolding desk_grant
desk-granted states circuit room c e = go (eqb (length states) 4096) refl e
  where
    last : (is_legal (octet states circuit) ≡ true) → length states ≡ 4096 → circuit ≤ 4095 → (t : Bool) → ltb room 3 ≡ t → (when t then refused 13 0 else accepted circuit) ≡ accepted c → Granted states circuit room c
    last l s k true t h = absurd (refused-accepted h)
    last l s k false t h = record { same = sym (accepted-same h); sized = s; known = k; legal = legal-is _ l; room-enough = ltb-false room 3 t }

    row : length states ≡ 4096 → circuit ≤ 4095 → (l : Bool) → is_legal (octet states circuit) ≡ l → (when l then (when ltb room 3 then refused 13 0 else accepted circuit) else refused 20 0) ≡ accepted c → Granted states circuit room c
    row s k true l h = last l s k (ltb room 3) refl h
    row s k false l h = absurd (refused-accepted h)

    named : length states ≡ 4096 → (u : Bool) → ltb 4095 circuit ≡ u
        → (when u then refused 9 0 else when is_legal (octet states circuit) then (when ltb room 3 then refused 13 0 else accepted circuit) else refused 20 0) ≡ accepted c → Granted states circuit room c
    named s true u h = absurd (refused-accepted h)
    named s false u h = row s (ltb-false 4095 circuit u) (is_legal (octet states circuit)) refl h

    go : (t : Bool) → eqb (length states) 4096 ≡ t
        → (when t then (when ltb 4095 circuit then refused 9 0 else when is_legal (octet states circuit) then (when ltb room 3 then refused 13 0 else accepted circuit) else refused 20 0) else refused 16 0) ≡ accepted c
        → Granted states circuit room c
    go true t h = named (eqb-true _ _ t) (ltb 4095 circuit) refl h
    go false t h = absurd (refused-accepted h)

-- ---- a desk call
module _ (states : List ℕ) (circuit : ℕ) (set : Bool) (buffer : List ℕ) where
  -- the same of the answer itself
  pub desk-refuses-exactly : (n at : ℕ) → ((desk_of states circuit set buffer).answer ≡ refused n at) ↔ First (desk_faults states circuit (length buffer)) n at
  unfolding desk_of
  desk-refuses-exactly n at =
      let j = (desk-grant-judges states circuit (length buffer)).refuses n at in
      let w = tells (desk_grant states circuit (length buffer)) in
      (λ e. j.0 (w.0 e), λ f. w.1 (j.1 f))
    where
      tells : (g : Answer ℕ) → ((desk_carried states set buffer g).answer ≡ refused n at) ↔ (g ≡ refused n at)
      tells (accepted c) = (λ e. absurd (refused-accepted (sym e)), λ e. absurd (refused-accepted (sym e)))
      tells (refused k q) = (λ e. e, λ e. e)

  pub desk-accepts-exactly : ((n : ℕ) × ((desk_of states circuit set buffer).answer ≡ accepted n)) ↔ None (desk_faults states circuit (length buffer))
  unfolding desk_of
  desk-accepts-exactly =
      let j = desk-grant-judges states circuit (length buffer) in
      let w = tells (desk_grant states circuit (length buffer)) in
      (λ e. j.accepts.0 (w.0 e), λ h. w.1 (j.accepts.1 h))
    where
      tells : (g : Answer ℕ) → ((n : ℕ) × ((desk_carried states set buffer g).answer ≡ accepted n)) ↔ ((c : ℕ) × (g ≡ accepted c))
      tells (accepted c) = (λ e. (c, refl), λ h. (length (notice_of c set), refl))
      tells (refused k at) = (λ e. absurd (refused-accepted e.1), λ h. absurd (refused-accepted h.1))

  -- none of its refusals is about an octet
  pub desk-placeless : (n at : ℕ) → (desk_of states circuit set buffer).answer ≡ refused n at → at ≡ 0
  unfolding desk_of desk_grant
  desk-placeless n at e = go (desk_grant states circuit (length buffer)) within e
    where
      within : UpTo 0 (desk_grant states circuit (length buffer))
      within =
          up-to-if _ (eqb (length states) 4096)
          (λ _.
          up-to-if _ (ltb 4095 circuit) (λ _. up-to-refused _ 9 0 (omega arith))
          (λ _.
          up-to-if _ (is_legal (octet states circuit))
          (λ _. up-to-if _ (ltb (length buffer) 3) (λ _. up-to-refused _ 13 0 (omega arith)) (λ _. up-to-accepted _ _))
          (λ _. up-to-refused _ 20 0 (omega arith))))
          (λ _. up-to-refused _ 16 0 (omega arith))

      go : (g : Answer ℕ) → UpTo 0 g → (desk_carried states set buffer g).answer ≡ refused n at → at ≡ 0
      go (accepted c) u h = absurd (refused-accepted (sym h))
      go (refused k q) u h = omega (arith, u n at h)

  -- a refusal keeps every row and every octet of the buffer
  pub desk-keeps : (n at : ℕ) → (desk_of states circuit set buffer).answer ≡ refused n at → ((desk_of states circuit set buffer).states ≡ states) × ((desk_of states circuit set buffer).buffer ≡ buffer)
  unfolding desk_of
  desk-keeps n at e = go (desk_grant states circuit (length buffer)) e
    where
      go : (g : Answer ℕ) → (desk_carried states set buffer g).answer ≡ refused n at → ((desk_carried states set buffer g).states ≡ states) × ((desk_carried states set buffer g).buffer ≡ buffer)
      go (accepted c) h = absurd (refused-accepted (sym h))
      go (refused k q) h = (refl, refl)

  -- what an accepted call leaves
  pub record DeskCalled (n : ℕ) : Type 0 where
    pub granted : Granted states circuit (length buffer) circuit
    pub count : n ≡ 3
    pub rows : (desk_of states circuit set buffer).states ≡ rows_blocked set circuit states
    pub front : (desk_of states circuit set buffer).buffer ≡ filled (notice_of circuit set) buffer

  pub desk-called : (n : ℕ) → (desk_of states circuit set buffer).answer ≡ accepted n → DeskCalled n
  unfolding desk_of
  desk-called n e = go (desk_grant states circuit (length buffer)) refl e
    where
      go : (g : Answer ℕ) → desk_grant states circuit (length buffer) ≡ g → (desk_carried states set buffer g).answer ≡ accepted n → DeskCalled n
      go (refused k q) p h = absurd (refused-accepted h)
      go (accepted c) p h =
          let w = desk-granted states circuit (length buffer) c p in
          let s = w.same in
          record {
            granted = subst (λ (d : ℕ). Granted states circuit (length buffer) d) s w;
            count = sym (accepted-same h);
            rows = ap (λ g. (desk_carried states set buffer g).states) p ∙ ap (λ (d : ℕ). rows_blocked set d states) s;
            front = ap (λ g. (desk_carried states set buffer g).buffer) p ∙ ap (λ (d : ℕ). filled (notice_of d set) buffer) s;
          }

  pub desk-answer-or : ((n : ℕ) × ((desk_of states circuit set buffer).answer ≡ accepted n)) ⊎ ((n : ℕ) × (at : ℕ) × ((desk_of states circuit set buffer).answer ≡ refused n at))
  unfolding desk_of
  desk-answer-or = go (desk_grant states circuit (length buffer))
    where
      go : (g : Answer ℕ) → ((n : ℕ) × ((desk_carried states set buffer g).answer ≡ accepted n)) ⊎ ((n : ℕ) × (at : ℕ) × ((desk_carried states set buffer g).answer ≡ refused n at))
      go (accepted c) = inl (length (notice_of c set), refl)
      go (refused k at) = inr (k, at, refl)

  -- the table keeps its length
  pub desk-length : length (desk_of states circuit set buffer).states ≡ length states
  desk-length =
      ⊎_elim
      (λ e. ap length (desk-called e.0 e.1).rows ∙ length-applied (λ c row. local_row set row) circuit 1 states)
      (λ e. ap length (desk-keeps e.0 e.1 e.2).0)
      desk-answer-or

  -- and so does the buffer
  pub desk-buffer-length : length (desk_of states circuit set buffer).buffer ≡ length buffer
  desk-buffer-length =
      ⊎_elim
      (λ e.
      let d = desk-called e.0 e.1 in
      ap length d.front ∙ (simp length-drop (omega (arith, d.granted.room-enough))))
      (λ e. ap length (desk-keeps e.0 e.1 e.2).1)
      desk-answer-or

  -- a row of any other circuit stays
  pub desk-untouched : (c : ℕ) → (c ≡ circuit → circuit ≤ 4095 → ⊥) → octet (desk_of states circuit set buffer).states c ≡ octet states c
  desk-untouched c out =
      ⊎_elim
      (λ e.
      let d = desk-called e.0 e.1 in
      ap (λ (l : List ℕ). octet l c) d.rows
      ∙ ⊎_elim
      (λ t. applied-below (λ k row. local_row set row) circuit 1 states c (ltb-true c circuit t))
      (λ t.
      let apart : c ≡ circuit → ⊥ = λ q. out q d.granted.known in
      applied-past (λ k row. local_row set row) circuit 1 states c (omega (arith, ltb-false c circuit t, apart)))
      (decided (ltb c circuit)))
      (λ e. ap (λ (l : List ℕ). octet l c) (desk-keeps e.0 e.1 e.2).0)
      desk-answer-or

  -- the desk call's rule: the circuit's 8 is set, or cleared; all else that its row says stays, and
  -- so does every other row; the answer is BLO, or UBL, with the circuit number as given
  pub desk-rule : (n : ℕ) → (desk_of states circuit set buffer).answer ≡ accepted n
      → Changes states (desk_of states circuit set buffer).states circuit 0 every (LocallyBlocked set)
      × Answers buffer (desk_of states circuit set buffer).buffer n (notice_of circuit set)
      × ReadsAs (take n (desk_of states circuit set buffer).buffer) circuit (saying (when set then BLO else UBL) [] [] [])
  desk-rule n e =
      let d = desk-called n e in
      let w = d.granted in
      let now : octet (desk_of states circuit set buffer).states circuit ≡ local_row set (octet states circuit) =
      ap (λ (l : List ℕ). octet l circuit) d.rows ∙ applied-in (λ c row. local_row set row) circuit 1 states circuit (omega arith) (omega arith) (omega (arith, w.sized, w.known)) in (
        record {
          named = λ i h t. let z : circuit + i ≡ circuit = omega arith in rw z (rw now (local-becomes set (octet states circuit)));
          unmarked = λ i h t. absurd (true-false {t = true} refl t);
          others = λ c h. desk-untouched c (λ q k. ⊎_elim (λ l. omega (arith, l, q)) (λ l. omega (arith, l, q)) h);
        },
        (d.count, d.front),
        subst (λ (l : List ℕ). ReadsAs l circuit (saying (when set then BLO else UBL) [] [] [])) (sym (ap (take n) d.front ∙ take-filled (notice_of circuit set) buffer n d.count)) (notice-reads circuit set w.known),
      )

  -- a row that is legal is legal after any desk call
  pub desk-legal-stays : (c : ℕ) → Legal (octet states c) → Legal (octet (desk_of states circuit set buffer).states c)
  desk-legal-stays c h =
      ⊎_elim
      (λ e.
      let d = desk-called e.0 e.1 in
      let w = d.granted in
      ⊎_elim
      (λ t.
      let q : c ≡ circuit = eqb-true c circuit t in
      let now = ap (λ (l : List ℕ). octet l circuit) d.rows ∙ applied-in (λ k row. local_row set row) circuit 1 states circuit (omega arith) (omega arith) (omega (arith, w.sized, w.known)) in
      rw q (subst (λ (r : ℕ). Legal r) (sym now) (local-legal set (octet states circuit) w.legal)))
      (λ t. subst (λ (r : ℕ). Legal r) (sym (desk-untouched c (λ q k. eqb-false c circuit t q))) h)
      (decided (eqb c circuit)))
      (λ e. subst (λ (l : List ℕ). Legal (octet l c)) (sym (desk-keeps e.0 e.1 e.2).0) h)
      desk-answer-or

-- what a desk call answers, and what it makes of a row, depends on the length of the table and on
-- the row of its circuit alone
module _ (s t : List ℕ) (circuit : ℕ) (set : Bool) (buffer : List ℕ) (long : length s ≡ length t) (agree : circuit ≤ 4095 → octet s circuit ≡ octet t circuit) where
  grant-alike : desk_grant s circuit (length buffer) ≡ desk_grant t circuit (length buffer)
  unfolding desk_grant
  grant-alike = go (ltb 4095 circuit) refl
    where
      go : (u : Bool) → ltb 4095 circuit ≡ u → desk_grant s circuit (length buffer) ≡ desk_grant t circuit (length buffer)
      go true u = rw u (λ i. when eqb (long i) 4096 then refused 9 0 else refused 16 0)
      go false u =
          let r = agree (ltb-false 4095 circuit u) in
          rw u (λ i. when eqb (long i) 4096 then (when is_legal (r i) then (when ltb (length buffer) 3 then refused 13 0 else accepted circuit) else refused 20 0) else refused 16 0)

  -- the answer and the buffer
  told-alike : (g : Answer ℕ) → ((desk_carried s set buffer g).answer ≡ (desk_carried t set buffer g).answer) × ((desk_carried s set buffer g).buffer ≡ (desk_carried t set buffer g).buffer)
  told-alike (accepted c) = (refl, refl)
  told-alike (refused n at) = (refl, refl)

  pub desk-alike : ((desk_of s circuit set buffer).answer ≡ (desk_of t circuit set buffer).answer) × ((desk_of s circuit set buffer).buffer ≡ (desk_of t circuit set buffer).buffer)
  unfolding desk_of
  desk-alike =
      let w = told-alike (desk_grant s circuit (length buffer)) in
      (w.0 ∙ ap (λ g. (desk_carried t set buffer g).answer) grant-alike, w.1 ∙ ap (λ g. (desk_carried t set buffer g).buffer) grant-alike)

  -- and the rows
  pub desk-rows-alike : (i : ℕ) → octet s i ≡ octet t i → octet (desk_of s circuit set buffer).states i ≡ octet (desk_of t circuit set buffer).states i
  desk-rows-alike i e =
      ⊎_elim
      (λ n.
      let d = desk-called s circuit set buffer n.0 n.1 in
      let k = desk-called t circuit set buffer n.0 (sym desk-alike.0 ∙ n.1) in
      ap (λ (l : List ℕ). octet l i) d.rows ∙ blocked-alike d.granted.sized k.granted.sized d.granted.known ∙ sym (ap (λ (l : List ℕ). octet l i) k.rows))
      (λ n.
      ap (λ (l : List ℕ). octet l i) (desk-keeps s circuit set buffer n.0 n.1 n.2).0
      ∙ e
      ∙ sym (ap (λ (l : List ℕ). octet l i) (desk-keeps t circuit set buffer n.0 n.1 (sym desk-alike.0 ∙ n.2)).0))
      (desk-answer-or s circuit set buffer)
    where
      blocked-alike : length s ≡ 4096 → length t ≡ 4096 → circuit ≤ 4095 → octet (rows_blocked set circuit s) i ≡ octet (rows_blocked set circuit t) i
      blocked-alike p q k =
          ⊎_elim
          (λ b. applied-below (λ c row. local_row set row) circuit 1 s i (ltb-true i circuit b) ∙ e ∙ sym (applied-below (λ c row. local_row set row) circuit 1 t i (ltb-true i circuit b)))
          (λ b.
          ⊎_elim
          (λ a. applied-past (λ c row. local_row set row) circuit 1 s i (omega (arith, ltb-true circuit i a)) ∙ e ∙ sym (applied-past (λ c row. local_row set row) circuit 1 t i (omega (arith, ltb-true circuit i a))))
          (λ a.
          let l = ltb-false i circuit b in
          let h = ltb-false circuit i a in
          applied-in (λ c row. local_row set row) circuit 1 s i l (omega (arith, h)) (omega (arith, h, p, k)) ∙ ap (local_row set) e ∙ sym (applied-in (λ c row. local_row set row) circuit 1 t i l (omega (arith, h)) (omega (arith, h, q, k))))
          (decided (ltb circuit i)))
          (decided (ltb i circuit))

-- ---- the code, over plain variables
module _ (states : List ℕ) (circuit : ℕ) (set : Bool) (buffer : List ℕ) where
  pub desk-16 : (length states ≡ 4096 → ⊥) → after (refused 16 0) states buffer ≡ desk_of states circuit set buffer
  unfolding desk_of desk_grant
  desk-16 h = rw (ne_eqb _ _ h)

  module _ (s : length states ≡ 4096) where
    pub desk-9 : 4095 < circuit → after (refused 9 0) states buffer ≡ desk_of states circuit set buffer
    unfolding desk_of desk_grant
    desk-9 h = rw (eq-eqb _ _ s, lt-ltb _ _ h)

    module _ (k : circuit ≤ 4095) where
      pub desk-20 : is_legal (octet states circuit) ≡ false → after (refused 20 0) states buffer ≡ desk_of states circuit set buffer
      unfolding desk_of desk_grant
      desk-20 h = rw (eq-eqb _ _ s, le-ltb _ _ k, h)

      module _ (l : is_legal (octet states circuit) ≡ true) where
        -- only 13 is left
        roomed : desk_carried states set buffer (when ltb (length buffer) 3 then refused 13 0 else accepted circuit) ≡ desk_of states circuit set buffer
        unfolding desk_of desk_grant
        roomed = rw (eq-eqb _ _ s, le-ltb _ _ k, l)

        module _ (r : Result ℕ Refusal) (left : List ℕ) (e : leaving (told r) left ≡ sent (notice_of circuit set) buffer) where
          pub desk-short : (why : Refusal) → r ≡ Err why → after (refused (refusal_number why) (refusal_place why)) states left ≡ desk_of states circuit set buffer
          desk-short why q = go (refusal_number why) (refusal_place why) (ltb (length buffer) 3) (ap (λ (y : Result ℕ Refusal). leaving (told y) left) (sym q) ∙ e) ∙ roomed
            where
              go : (n at : ℕ) (t : Bool) → leaving (refused n at) left ≡ done buffer (when t then refused 13 0 else accepted (length (notice_of circuit set), notice_of circuit set)) → after (refused n at) states left ≡ desk_carried states set buffer (when t then refused 13 0 else accepted circuit)
              go n at true h = ap (λ (d : Done ℕ). after d.answer states d.left) h
              go n at false h = absurd (refused-accepted (ap (λ (d : Done ℕ). d.answer) h))

          pub desk-done : (n v : ℕ) → r ≡ Ok n → v ≡ local_row set (octet states circuit) → after (accepted n) (put states circuit v) left ≡ desk_of states circuit set buffer
          desk-done n v q w = go (ltb (length buffer) 3) (ap (λ (y : Result ℕ Refusal). leaving (told y) left) (sym q) ∙ e) ∙ roomed
            where
              changed : put states circuit v ≡ rows_blocked set circuit states
              changed = sym (applied-more (λ c row. local_row set row) circuit 1 (circuit + 1) 0 v states (omega arith) (omega arith) w ∙ applied-none (λ c row. local_row set row) (circuit + 1) 0 (put states circuit v) refl)

              go : (t : Bool) → leaving (accepted n) left ≡ done buffer (when t then refused 13 0 else accepted (length (notice_of circuit set), notice_of circuit set)) → after (accepted n) (put states circuit v) left ≡ desk_carried states set buffer (when t then refused 13 0 else accepted circuit)
              go true h = absurd (refused-accepted (sym (ap (λ (d : Done ℕ). d.answer) h)))
              go false h = λ i. after (h i).answer (changed i) (h i).left

-- any two answers that the contract of `desk_call` allows are equal, with the
-- states and the answer buffer afterwards
pub desk-determined : (states : List ℕ) (circuit : ℕ) (set : Bool) (buffer : List ℕ) (r s : Result ℕ Refusal) (states₁ states₂ buffer₁ buffer₂ : List ℕ)
    → after (told r) states₁ buffer₁ ≡ desk_of states circuit set buffer
    → after (told s) states₂ buffer₂ ≡ desk_of states circuit set buffer
    → (r ≡ s) × (states₁ ≡ states₂) × (buffer₁ ≡ buffer₂)
desk-determined states circuit set buffer r s states₁ states₂ buffer₁ buffer₂ p q =
    let e = p ∙ sym q in (
      told-injective r s (ap (λ (x : After). x.answer) e),
      ap (λ (x : After). x.states) e,
      ap (λ (x : After). x.buffer) e,
    )
