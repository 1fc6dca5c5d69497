-- Demand 3 once more, where each party has one buffer that is lent again for each of its calls.
use Prim.Native.Nat.{ℕ, ◌+◌, ◌*◌, ◌/◌, ◌%◌, ◌≤◌}
use mathlib.Core.Path.{◌≡◌, refl, sym, ◌∙◌, ap}
use mathlib.Core.Bool.{true, false}
use mathlib.Core.List.{List, [], ◌∷◌}
use native.Mathlib.Omega.{arith}
use borrow.Author.Tests.{eqb-true, eq-eqb, ne_eqb}
use lib.Dec.{eqb}
use lib.ListN.{length}
use lib.Seq.{ext_get_or}
use Rattle.octets.specs.Octet.{octet}
use Rattle.octets.proofs.Parity.{by-halves}
use Rattle.arrival.specs.Calls.{Agree, Apart, Has, Separate, Merged, state_after, answers_of, answers}
use Rattle.arrival.proofs.Isolation.{merges-size-alike, merges-answer-alike, merges-end-alike, merge-answers-alone}
use Rattle.hub.specs.Arrival.{holds_of, RightOf, Standing, Event, party_of, done_by, standing_at, stands_of, hub, hub_keeping}
use Rattle.hub.proofs.Orders.{holds-is, done-length, done-alike, keeps-others}

-- ---- even places are rows, odd places are buffers
abbrev even : (j : ℕ) → eqb ((2 * j) % 2) 0 ≡ true
even j = eq-eqb ((2 * j) % 2) 0 (omega arith)

abbrev odd : (j : ℕ) → eqb ((2 * j + 1) % 2) 0 ≡ false
odd j = ne_eqb ((2 * j + 1) % 2) 0 (λ e. omega arith)

abbrev half : (j : ℕ) → (2 * j) / 2 ≡ j
half j = omega arith

abbrev half-odd : (j : ℕ) → (2 * j + 1) / 2 ≡ j
half-odd j = omega arith

at_row : (s : Standing) (i : ℕ) → standing_at s (2 * i) ≡ octet s.rows i ∷ []
at_row s i = rw (even i, half i) refl

at-buffer : (s : Standing) (q : ℕ) → standing_at s (2 * q + 1) ≡ s.buffers q
at-buffer s q = rw (odd q, half-odd q) refl

stands-row : (owners helpers : List ℕ) (q i : ℕ) → stands_of owners helpers q (2 * i) ≡ holds_of owners helpers q i
stands-row owners helpers q i = rw (even i, half i) refl

stands-buffer : (owners helpers : List ℕ) (q r : ℕ) → stands_of owners helpers q (2 * r + 1) ≡ eqb r q
stands-buffer owners helpers q r = rw (odd r, half-odd r) refl

one_entry : {a b : ℕ} → a ∷ [] ≡ b ∷ [] → a ≡ b
one_entry e = cc

-- ---- the two facts
module _ (owners helpers : List ℕ) where
  module _ (c : Event) (s t : Standing) (a : Agree (hub_keeping owners helpers) (party_of owners c) s t) where
    long : length s.rows ≡ length t.rows
    long = one_entry a.0

    rows_agree : (i : ℕ) → holds_of owners helpers (party_of owners c) i ≡ true → octet s.rows i ≡ octet t.rows i
    rows_agree i h = one_entry (sym (at_row s i) ∙ a.1 (2 * i) (stands-row owners helpers (party_of owners c) i ∙ h) ∙ at_row t i)

    lent_alike : s.buffers (party_of owners c) ≡ t.buffers (party_of owners c)
    lent_alike = sym (at-buffer s (party_of owners c)) ∙ a.1 (2 * party_of owners c + 1) (stands-buffer owners helpers (party_of owners c) (party_of owners c) ∙ eq-eqb (party_of owners c) (party_of owners c) refl) ∙ at-buffer t (party_of owners c)

    answer-alike : (hub_keeping owners helpers).answer c s ≡ (hub_keeping owners helpers).answer c t
    answer-alike =
        let y = done-alike owners helpers c s.rows t.rows long rows_agree (s.buffers (party_of owners c)) in
        (λ i. record { answer = y.0 i; buffer = y.1 i })
        ∙ ap (λ (b : List ℕ). (hub owners helpers).answer (record { asks = c; buffer = b }) t.rows) lent_alike

    row-alike : (i : ℕ) → holds_of owners helpers (party_of owners c) i ≡ true → octet ((hub_keeping owners helpers).after c s).rows i ≡ octet ((hub_keeping owners helpers).after c t).rows i
    row-alike i h =
        (done-alike owners helpers c s.rows t.rows long rows_agree (s.buffers (party_of owners c))).2 i h
        ∙ ap (λ (b : List ℕ). octet (done_by owners helpers c b t.rows).states i) lent_alike

    buffer-alike : (q : ℕ) → eqb q (party_of owners c) ≡ true → ((hub_keeping owners helpers).after c s).buffers q ≡ ((hub_keeping owners helpers).after c t).buffers q
    buffer-alike q e = rw e (ap (λ r. r.buffer) answer-alike)

    after-alike : Agree (hub_keeping owners helpers) (party_of owners c) ((hub_keeping owners helpers).after c s) ((hub_keeping owners helpers).after c t)
    after-alike = (
      ap (λ (n : ℕ). n ∷ []) (done-length owners helpers c (s.buffers (party_of owners c)) s.rows ∙ long ∙ sym (done-length owners helpers c (t.buffers (party_of owners c)) t.rows)),
      by-halves (λ j. stands_of owners helpers (party_of owners c) j ≡ true → standing_at ((hub_keeping owners helpers).after c s) j ≡ standing_at ((hub_keeping owners helpers).after c t) j)
          (λ i h.
          at_row ((hub_keeping owners helpers).after c s) i
          ∙ ap (λ (n : ℕ). n ∷ []) (row-alike i (sym (stands-row owners helpers (party_of owners c) i) ∙ h))
          ∙ sym (at_row ((hub_keeping owners helpers).after c t) i))
          (λ q h.
          at-buffer ((hub_keeping owners helpers).after c s) q
          ∙ buffer-alike q (sym (stands-buffer owners helpers (party_of owners c) q) ∙ h)
          ∙ sym (at-buffer ((hub_keeping owners helpers).after c t) q)),
    )

  others-kept : (c : Event) (s : Standing) (j : ℕ) → stands_of owners helpers (party_of owners c) j ≡ false → standing_at ((hub_keeping owners helpers).after c s) j ≡ standing_at s j
  others-kept c s =
      by-halves (λ j. stands_of owners helpers (party_of owners c) j ≡ false → standing_at ((hub_keeping owners helpers).after c s) j ≡ standing_at s j)
      (λ i h.
      at_row ((hub_keeping owners helpers).after c s) i
      ∙ ap (λ (n : ℕ). n ∷ []) (keeps-others owners helpers c (s.buffers (party_of owners c)) s.rows i (sym (stands-row owners helpers (party_of owners c) i) ∙ h))
      ∙ sym (at_row s i))
      (λ q h.
      let e : eqb q (party_of owners c) ≡ false = sym (stands-buffer owners helpers (party_of owners c) q) ∙ h in
      at-buffer ((hub_keeping owners helpers).after c s) q ∙ rw e refl ∙ sym (at-buffer s q))

  pub keeping-apart : Apart (hub_keeping owners helpers)
  keeping-apart = record {
    sees = λ c s t a. (answer-alike c s t a, after-alike c s t a);
    keeps = λ c s. (ap (λ (n : ℕ). n ∷ []) (done-length owners helpers c (s.buffers (party_of owners c)) s.rows), others-kept c s);
  }

  -- the condition is that of the rows alone: no two parties hold the same buffer
  pub keeping-separate : (cs : List Event) → ((c d : Event) → Has (hub_keeping owners helpers) c cs → Has (hub_keeping owners helpers) d cs → (i : ℕ) → i ≤ 4095 → RightOf owners helpers (party_of owners c) i → RightOf owners helpers (party_of owners d) i → party_of owners c ≡ party_of owners d)
      → Separate (hub_keeping owners helpers) cs
  keeping-separate cs z c d h k =
      by-halves (λ j. stands_of owners helpers (party_of owners c) j ≡ true → stands_of owners helpers (party_of owners d) j ≡ true → party_of owners c ≡ party_of owners d)
      (λ i p q.
      let u = holds-is owners helpers (party_of owners c) i (sym (stands-row owners helpers (party_of owners c) i) ∙ p) in
      z c d h k i u.0 u.1 (holds-is owners helpers (party_of owners d) i (sym (stands-row owners helpers (party_of owners d) i) ∙ q)).1)
      (λ r p q.
      sym (eqb-true r (party_of owners c) (sym (stands-buffer owners helpers (party_of owners c) r) ∙ p)) ∙ eqb-true r (party_of owners d) (sym (stands-buffer owners helpers (party_of owners d) r) ∙ q))

  -- any two merges of the same lists end in the same rows and the same buffers,
  -- with the same answer for each message
  pub order-does-not-matter-kept : (cs ds : List Event) (ls : ℕ → List Event) (s : Standing) → Merged (hub_keeping owners helpers) cs ls → Merged (hub_keeping owners helpers) ds ls → Separate (hub_keeping owners helpers) cs
      → ((state_after (hub_keeping owners helpers) cs s).rows ≡ (state_after (hub_keeping owners helpers) ds s).rows)
      × ((q : ℕ) → (state_after (hub_keeping owners helpers) cs s).buffers q ≡ (state_after (hub_keeping owners helpers) ds s).buffers q)
      × ((q : ℕ) → answers_of (hub_keeping owners helpers) q cs s ≡ answers_of (hub_keeping owners helpers) q ds s)
  order-does-not-matter-kept cs ds ls s m n z =
      let e = merges-end-alike (hub_keeping owners helpers) keeping-apart cs ds ls m n z s in
      let x = state_after (hub_keeping owners helpers) cs s in
      let y = state_after (hub_keeping owners helpers) ds s in (
        ext_get_or 0 x.rows y.rows
            (one_entry (merges-size-alike (hub_keeping owners helpers) keeping-apart cs ds ls m n z s))
            (λ i h. one_entry (sym (at_row x i) ∙ e (2 * i) ∙ at_row y i)),
        (λ q. sym (at-buffer x q) ∙ e (2 * q + 1) ∙ at-buffer y q),
        merges-answer-alike (hub_keeping owners helpers) keeping-apart cs ds ls m n z s,
      )

  -- and each party has the answers that it has if the others had sent nothing
  pub as-if-alone-kept : (cs : List Event) (ls : ℕ → List Event) (s : Standing) → Merged (hub_keeping owners helpers) cs ls → Separate (hub_keeping owners helpers) cs → (q : ℕ) → answers_of (hub_keeping owners helpers) q cs s ≡ answers (hub_keeping owners helpers) (ls q) s
  as-if-alone-kept cs ls s m z = merge-answers-alone (hub_keeping owners helpers) keeping-apart cs ls m z s
