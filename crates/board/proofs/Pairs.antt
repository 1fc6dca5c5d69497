-- Two calls that name no circuit in common give the same tables and the same answers in either
-- order, whoever sends them.
use Prim.Native.Nat.{ℕ, ◌+◌, ◌≤◌, ◌<◌}
use mathlib.Core.Path.{◌≡◌, refl, sym, ◌∙◌, ap}
use mathlib.Core.Bool.{Bool, true, false}
use mathlib.Core.List.{List, [], ◌∷◌}
use mathlib.Core.Logic.{◌⊎◌, inl, inr, ⊎_elim, ◌↔◌}
use native.Mathlib.Omega.{arith}
use borrow.Author.Tests.{eq-eqb, ne_eqb, eqb-true, eqb-false, le-ltb, ltb-true, ltb-false}
use lib.Dec.{ltb, eqb}
use lib.ListN.{length}
use Rattle.octets.specs.Octet.{octet}
use Rattle.octets.specs.Choice.{when◌then◌else◌}
use Rattle.octets.specs.Answer.{Answer, accepted, refused}
use Rattle.octets.specs.Faults.{None, fault}
use Rattle.octets.proofs.Choice.{chosen, decided, true-false}
use Rattle.asks.specs.declared.Ask.{Ask}
use Rattle.asks.specs.Asks.{ask_of}
use Rattle.asks.specs.Faults.{ask_faults}
use Rattle.asks.proofs.Judged.{ask-judges}
use Rattle.arrival.specs.Pair.{Local}
use Rattle.rights.specs.Tables.{Tables, tables, sized}
use Rattle.hub.specs.Acts.{After, after, grant_of, act_of}
use Rattle.rights.specs.Names.{Names}
use Rattle.rights.specs.Faults.{WrongTables}
use Rattle.hub.specs.Arrival.{Event, heard, ours, Call, done_by}
use Rattle.hub.proofs.Called.{act-keeps, untouched}
use Rattle.hub.proofs.Local.{local-answer, local-buffer, local-rows}
use Rattle.hub.proofs.Desk.{desk-keeps, desk-16, desk-alike, desk-rows-alike, desk-untouched}
use Rattle.hub.specs.Deeds.{with_circuits}
use Rattle.hub.specs.declared.Handled.{Handled}
use Rattle.board.specs.Board.{totals_after}
use Rattle.board.specs.Arrival.{Standings, named_by, kept_by, replied_by, left_in, board}
use Rattle.board.specs.Faults.{WrongTotals}
use Rattle.board.specs.Names.{NamesAt, is_named, call_names}
use Rattle.board.proofs.Orders.{rows_left, answer-left, buffer-left, totals-left, board-apart}

-- ---- the test and the statement
pub named-is : (m : List ℕ) (i : ℕ) → is_named (ask_of m) i ≡ true → Names m i
named-is m i e = go (ask_of m) refl e
  where
    go : (g : Answer Ask) → ask_of m ≡ g → is_named g i ≡ true → Names m i
    go (accepted a) q h =
        ⊎_elim
        (λ w. absurd (true-false {t = false} w.1 refl))
        (λ w. ⊎_elim (λ u. absurd (true-false {t = false} u.1 refl)) (λ u. (a, q, (ltb-false i a.circuit w.0, ltb-false (a.circuit + a.range) i u.0))) (chosen (ltb (a.circuit + a.range) i) w.1))
        (chosen (ltb i a.circuit) h)
    go (refused n at) q h = absurd (true-false {t = false} h refl)

pub is-named : (m : List ℕ) (i : ℕ) → Names m i → is_named (ask_of m) i ≡ true
is-named m i w = ap (λ (g : Answer Ask). is_named g i) w.1 ∙ (rw (le-ltb _ _ w.2.0, le-ltb _ _ w.2.1) refl)

-- where a table has another length a message is 16, and all is kept
act-wrong : (T : Tables) (sender : ℕ) (m buffer : List ℕ) → sized T ≡ false → after (refused 16 0) T.states buffer ≡ act_of T sender m buffer
unfolding act_of grant_of
act-wrong T sender m buffer e = rw e refl

-- a number that cannot be another is it
sure : {a b : ℕ} → ((a ≡ b → ⊥) → ⊥) → a ≡ b
sure {a} {b} n = ⊎_elim (λ t. eqb-true a b t) (λ t. absurd (n (eqb-false a b t))) (decided (eqb a b))

-- ---- a call depends on, and changes, the rows that it names alone
module _ (owners helpers : List ℕ) where
  -- on the rows
  done-local : (a : Event) (buffer s t : List ℕ) → length s ≡ length t → ((i : ℕ) → call_names owners helpers a i ≡ true → octet s i ≡ octet t i)
      → ((done_by owners helpers a buffer s).answer ≡ (done_by owners helpers a buffer t).answer)
      × ((done_by owners helpers a buffer s).buffer ≡ (done_by owners helpers a buffer t).buffer)
      × ((i : ℕ) → call_names owners helpers a i ≡ true → octet (done_by owners helpers a buffer s).states i ≡ octet (done_by owners helpers a buffer t).states i)
  done-local (heard sender m) buffer s t long agree = go (eqb (length s) 4096) (eqb (length owners) 4096) (eqb (length helpers) 4096) refl refl refl
    where
      T : Tables
      T = tables s owners helpers

      U : Tables
      U = tables t owners helpers

      wrong : sized (tables s owners helpers) ≡ false
          → ((act_of (tables s owners helpers) sender m buffer).answer ≡ (act_of (tables t owners helpers) sender m buffer).answer)
          × ((act_of (tables s owners helpers) sender m buffer).buffer ≡ (act_of (tables t owners helpers) sender m buffer).buffer)
          × ((i : ℕ) → call_names owners helpers (heard sender m) i ≡ true → octet (act_of (tables s owners helpers) sender m buffer).states i ≡ octet (act_of (tables t owners helpers) sender m buffer).states i)
      wrong e =
          let f : sized (tables t owners helpers) ≡ false = ap (λ (n : ℕ). when eqb n 4096 then (when eqb (length owners) 4096 then eqb (length helpers) 4096 else false) else false) (sym long) ∙ e in
          let p = act-wrong (tables s owners helpers) sender m buffer e in
          let q = act-wrong (tables t owners helpers) sender m buffer f in (
            sym (ap (λ (x : After). x.answer) p) ∙ ap (λ (x : After). x.answer) q,
            sym (ap (λ (x : After). x.buffer) p) ∙ ap (λ (x : After). x.buffer) q,
            λ i h. sym (ap (λ (x : After). octet x.states i) p) ∙ agree i h ∙ ap (λ (x : After). octet x.states i) q,
          )

      go : (x y z : Bool) → eqb (length s) 4096 ≡ x → eqb (length owners) 4096 ≡ y → eqb (length helpers) 4096 ≡ z
          → ((act_of (tables s owners helpers) sender m buffer).answer ≡ (act_of (tables t owners helpers) sender m buffer).answer)
          × ((act_of (tables s owners helpers) sender m buffer).buffer ≡ (act_of (tables t owners helpers) sender m buffer).buffer)
          × ((i : ℕ) → call_names owners helpers (heard sender m) i ≡ true → octet (act_of (tables s owners helpers) sender m buffer).states i ≡ octet (act_of (tables t owners helpers) sender m buffer).states i)
      go true true true e f g =
          let p = eqb-true (length s) 4096 e in
          let p' : length t ≡ 4096 = sym long ∙ p in
          let q = eqb-true (length owners) 4096 f in
          let w = eqb-true (length helpers) 4096 g in
          let k : (c : ℕ) → Names m c → (octet s c ≡ octet t c) × (octet owners c ≡ octet owners c) × (octet helpers c ≡ octet helpers c) = λ c n. (agree c (rw (f, g) (is-named m c n)), refl, refl) in (
            local-answer (tables s owners helpers) (tables t owners helpers) sender m p p' q q w w k buffer,
            local-buffer (tables s owners helpers) (tables t owners helpers) sender m p p' q q w w k buffer,
            λ i h. local-rows (tables s owners helpers) (tables t owners helpers) sender m p p' q q w w k buffer i (named-is m i (rw (f, g) at h)),
          )
      go true true false e f g = wrong (rw (e, f, g) refl)
      go true false z e f g = wrong (rw (e, f) refl)
      go false y z e f g = wrong (rw e refl)
  done-local (ours circuit set) buffer s t long agree =
      let own : circuit ≤ 4095 → octet s circuit ≡ octet t circuit = λ h. agree circuit (rw (le-ltb 4095 circuit h) (eq-eqb circuit circuit refl)) in
      let w = desk-alike s t circuit set buffer long own in
      (w.0, w.1, λ i z. desk-rows-alike s t circuit set buffer long own i (agree i z))

  -- a row that is not named stays
  done-keeps : (a : Event) (buffer s : List ℕ) (i : ℕ) → call_names owners helpers a i ≡ false → octet (done_by owners helpers a buffer s).states i ≡ octet s i
  done-keeps (heard sender m) buffer s i z = go (eqb (length owners) 4096) (eqb (length helpers) 4096) refl refl z
    where
      wrong : sized (tables s owners helpers) ≡ false → octet (act_of (tables s owners helpers) sender m buffer).states i ≡ octet s i
      wrong e = sym (ap (λ (x : After). octet x.states i) (act-wrong (tables s owners helpers) sender m buffer e))

      off : (x : Bool) → (when x then false else false) ≡ false
      off true = refl
      off false = refl

      go : (x y : Bool) → eqb (length owners) 4096 ≡ x → eqb (length helpers) 4096 ≡ y → (when x then (when y then is_named (ask_of m) i else false) else false) ≡ false → octet (act_of (tables s owners helpers) sender m buffer).states i ≡ octet s i
      go true true f g h = untouched (tables s owners helpers) sender m buffer i (λ n. true-false (is-named m i n) h)
      go true false f g h = wrong (rw (f, g) (off (eqb (length s) 4096)))
      go false y f g h = wrong (rw f (off (eqb (length s) 4096)))
  done-keeps (ours circuit set) buffer s i z =
      desk-untouched s circuit set buffer i (λ q h. true-false (rw (le-ltb 4095 circuit h) (eq-eqb i circuit q)) z)

  -- so with the totals too
  pub board-local : Local (board owners helpers) (λ c i. call_names owners helpers c.asks i)
  board-local = record {
    sees = λ c s t e agree. sees c.asks c.buffer s t (first_of e) (second-of e) agree (eqb (length s.totals) 64) refl;
    sized = λ c s. ((board-apart owners helpers).keeps c s).0;
    keeps = λ c s i z. keeps c.asks c.buffer s i z (eqb (length s.totals) 64) refl;
  }
    where
      first_of : {a b c d : ℕ} → a ∷ b ∷ [] ≡ c ∷ d ∷ [] → a ≡ c
      first_of e = cc

      second-of : {a b c d : ℕ} → a ∷ b ∷ [] ≡ c ∷ d ∷ [] → b ≡ d
      second-of e = cc

      keeps : (a : Event) (buffer : List ℕ) (s : Standings) (i : ℕ) → call_names owners helpers a i ≡ false → (b : Bool) → eqb (length s.totals) 64 ≡ b → octet (kept_by owners helpers a buffer s).states i ≡ octet s.rows i
      keeps a buffer s i z true e = ap (λ (l : List ℕ). octet l i) (rows_left owners helpers a buffer s true e) ∙ done-keeps a buffer s.rows i z
      keeps a buffer s i z false e = ap (λ (l : List ℕ). octet l i) (rows_left owners helpers a buffer s false e)

      sees : (a : Event) (buffer : List ℕ) (s t : Standings) → length s.rows ≡ length t.rows → length s.totals ≡ length t.totals
          → ((i : ℕ) → call_names owners helpers a i ≡ true → octet s.rows i ≡ octet t.rows i) → (b : Bool) → eqb (length s.totals) 64 ≡ b
          → (replied_by (kept_by owners helpers a buffer s) ≡ replied_by (kept_by owners helpers a buffer t))
          × ((i : ℕ) → call_names owners helpers a i ≡ true → octet (kept_by owners helpers a buffer s).states i ≡ octet (kept_by owners helpers a buffer t).states i)
      sees a buffer s t long many agree true e =
          let f : eqb (length t.totals) 64 ≡ true = ap (λ (n : ℕ). eqb n 64) (sym many) ∙ e in
          let y = done-local a buffer s.rows t.rows long agree in (
            λ i. record {
              answer = (answer-left owners helpers a buffer s true e ∙ y.0 ∙ sym (answer-left owners helpers a buffer t true f)) i;
              buffer = (buffer-left owners helpers a buffer s true e ∙ y.1 ∙ sym (buffer-left owners helpers a buffer t true f)) i;
            },
            λ i z.
                ap (λ (l : List ℕ). octet l i) (rows_left owners helpers a buffer s true e) ∙ y.2 i z ∙ sym (ap (λ (l : List ℕ). octet l i) (rows_left owners helpers a buffer t true f)),
          )
      sees a buffer s t long many agree false e =
          let f : eqb (length t.totals) 64 ≡ false = ap (λ (n : ℕ). eqb n 64) (sym many) ∙ e in (
            λ i. record {
              answer = (answer-left owners helpers a buffer s false e ∙ sym (answer-left owners helpers a buffer t false f)) i;
              buffer = (buffer-left owners helpers a buffer s false e ∙ sym (buffer-left owners helpers a buffer t false f)) i;
            },
            λ i z.
                ap (λ (l : List ℕ). octet l i) (rows_left owners helpers a buffer s false e) ∙ agree i z ∙ sym (ap (λ (l : List ℕ). octet l i) (rows_left owners helpers a buffer t false f)),
          )

  -- ---- two calls
  -- where there are not 4096 rows, or not 64 totals, a call is 16 and leaves all as it was
  pub idle-after : (a : Event) (buffer : List ℕ) (s : Standings) → ((length s.rows ≡ 4096) × (length s.totals ≡ 64) → ⊥) → left_in (kept_by owners helpers a buffer s) ≡ s
  idle-after a buffer s out = go (eqb (length s.totals) 64) refl
    where
      short : (length s.rows ≡ 4096 → ⊥) → (x : Event) → (done_by owners helpers x buffer s.rows).answer ≡ refused 16 0 → (done_by owners helpers x buffer s.rows).states ≡ s.rows
      short n (heard sender m) e = (act-keeps (tables s.rows owners helpers) sender m buffer 16 0 e).0
      short n (ours circuit set) e = (desk-keeps s.rows circuit set buffer 16 0 e).0

      sixteen : (length s.rows ≡ 4096 → ⊥) → (x : Event) → (done_by owners helpers x buffer s.rows).answer ≡ refused 16 0
      sixteen n (heard sender m) = sym (ap (λ (y : After). y.answer) (act-wrong (tables s.rows owners helpers) sender m buffer (rw (ne_eqb _ _ n) refl)))
      sixteen n (ours circuit set) = sym (ap (λ (y : After). y.answer) (desk-16 s.rows circuit set buffer n))

      none : (x : Event) → named_by x (refused 16 0) ≡ refused 16 0
      none (heard sender m) = spanless (ask_of m)
        where
          spanless : (g : Answer Ask) → with_circuits g (refused 16 0) ≡ refused 16 0
          spanless (accepted y) = refl
          spanless (refused k place) = refl
      none (ours circuit set) = refl

      go : (b : Bool) → eqb (length s.totals) 64 ≡ b → left_in (kept_by owners helpers a buffer s) ≡ s
      go false e = λ i. record { rows = rows_left owners helpers a buffer s false e i; totals = totals-left owners helpers a buffer s false e i }
      go true e =
          let n : length s.rows ≡ 4096 → ⊥ = λ p. out (p, eqb-true (length s.totals) 64 e) in
          let r = sixteen n a in
          λ i. record {
            rows = (rows_left owners helpers a buffer s true e ∙ short n a r) i;
            totals = (totals-left owners helpers a buffer s true e ∙ ap (λ (x : Answer Handled). totals_after (done_by owners helpers a buffer s.rows).states x s.totals) (ap (named_by a) r ∙ none a)) i;
          }

  -- a call that is named by the test is named by the statement
  pub names-so : (s : Standings) → length s.rows ≡ 4096 → length s.totals ≡ 64 → (a : Event) (i : ℕ) → call_names owners helpers a i ≡ true → NamesAt owners helpers s a i
  names-so s p q (heard sender m) i h =
      ⊎_elim
      (λ w. ⊎_elim (λ u. (p, eqb-true (length owners) 4096 w.0, eqb-true (length helpers) 4096 u.0, q, named-is m i u.1)) (λ u. absurd (true-false {t = false} u.1 refl)) (chosen (eqb (length helpers) 4096) w.1))
      (λ w. absurd (true-false {t = false} w.1 refl))
      (chosen (eqb (length owners) 4096) h)
  names-so s p q (ours circuit set) i h =
      ⊎_elim
      (λ w. absurd (true-false {t = false} w.1 refl))
      (λ w. (p, q, eqb-true i circuit w.1, ltb-false 4095 circuit w.0))
      (chosen (ltb 4095 circuit) h)

  -- a message names circuits exactly where nothing that is looked for before 19 is there: not 16,
  -- none of the reader's, not 17, 14 or 18
  pub names-exactly : (s : Standings) (sender : ℕ) (m : List ℕ)
      → ((i : ℕ) × NamesAt owners helpers s (heard sender m) i) ↔ None (fault 16 0 (WrongTables (tables s.rows owners helpers) ⊎ WrongTotals s.totals) ∷ ask_faults m)
  names-exactly s sender m = (
    λ w. (
      λ at h. ⊎_elim (λ x. ⊎_elim (λ n. n w.1.0) (λ y. ⊎_elim (λ n. n w.1.1) (λ n. n w.1.2) y) x) (λ n. n w.1.3) h.1,
      (ask-judges m).accepts.0 (w.1.4.0, w.1.4.1),
    ),
    λ z.
        let a = (ask-judges m).accepts.1 z.1 in (
          a.0.circuit,
          (sure (λ n. z.0 0 (refl, inl (inl n))), sure (λ n. z.0 0 (refl, inl (inr (inl n)))), sure (λ n. z.0 0 (refl, inl (inr (inr n)))), sure (λ n. z.0 0 (refl, inr n)), (a.0, a.1, (omega arith, omega arith))),
        ),
  )

  -- so does a desk call where neither 16 nor 9 is there
  pub desk-names-exactly : (s : Standings) (circuit : ℕ) (set : Bool)
      → ((i : ℕ) × NamesAt owners helpers s (ours circuit set) i) ↔ None (fault 16 0 ((length s.rows ≡ 4096 → ⊥) ⊎ WrongTotals s.totals) ∷ fault 9 0 (4095 < circuit) ∷ [])
  desk-names-exactly s circuit set = (
    λ w. (
      λ at h. ⊎_elim (λ n. n w.1.0) (λ n. n w.1.1) h.1,
      (λ at h. omega (arith, h.1, w.1.3), tt),
    ),
    λ z. (circuit, (sure (λ n. z.0 0 (refl, inl n)), sure (λ n. z.0 0 (refl, inr n)), refl, low z)),
  )
    where
      low : None (fault 16 0 ((length s.rows ≡ 4096 → ⊥) ⊎ WrongTotals s.totals) ∷ fault 9 0 (4095 < circuit) ∷ []) → circuit ≤ 4095
      low z = ⊎_elim (λ t. absurd (z.1.0 0 (refl, ltb-true 4095 circuit t))) (λ t. ltb-false 4095 circuit t) (decided (ltb 4095 circuit))

  -- no circuit is named by both
  abbrev pub Apart-at : Standings → Call → Call → Type 0
  Apart-at s c d = (i : ℕ) → NamesAt owners helpers s c.asks i → NamesAt owners helpers s d.asks i → ⊥

  -- the same rows and totals, and the same answers, in either order
  abbrev pub Either-order : Standings → Call → Call → Type 0
  Either-order s c d =
      ((board owners helpers).after d ((board owners helpers).after c s) ≡ (board owners helpers).after c ((board owners helpers).after d s))
      × ((board owners helpers).answer c s ≡ (board owners helpers).answer c ((board owners helpers).after d s))
      × ((board owners helpers).answer d ((board owners helpers).after c s) ≡ (board owners helpers).answer d s)
