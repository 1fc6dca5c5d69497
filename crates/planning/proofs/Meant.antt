-- Each message of the plan asks what is meant: it marks the row that it is for, names no circuit
-- that may not be blocked, and takes 9 octets for each tick at the most.
use Prim.Native.Nat.{ℕ, ◌+◌, ◌-◌, ◌*◌, ◌≤◌, ◌<◌}
use mathlib.Core.Path.{◌≡◌, refl, ◌∙◌, subst}
use mathlib.Core.Bool.{Bool, true, false}
use mathlib.Core.List.{[], ◌∷◌}
use mathlib.Core.Logic.{◌⊎◌, inl, inr, ⊎_elim}
use native.Mathlib.Omega.{arith}
use native.Mathlib.Nat.{eq-or-lt_of_le}
use borrow.Author.Tests.{ltb-true, ltb-false, eqb-true, eqb-false, eq-eqb}
use lib.Dec.{eqb, ltb}
use lib.ListN.{length}
use Rattle.octets.specs.Choice.{when◌then◌else◌}
use Rattle.octets.specs.Answer.{accepted}
use Rattle.octets.proofs.Choice.{true-false}
use Rattle.asks.specs.Asks.{width, ask_of, mark_of}
use Rattle.rights.specs.Names.{Named}
use Rattle.plans.specs.Plans.{planned, fits_kind, marks_of, Step, Plannable}
use Rattle.planning.specs.Planner.{ones, cgb, cgb_ask, cgb_step, blo_step, paired, step_for}
use Rattle.plans.proofs.Seen.{marks-in, marks-out}
use Rattle.planning.proofs.Asked.{asks-blo, asks-cgb}
use Rattle.planning.proofs.Bits.{length-ones, mark-ones, mark-one}

-- the message is right for the n ticked circuits from c on
pub record Meant (kind : ℕ) (can : ℕ → Bool) (c n : ℕ) (s : Step) : Type 0 where
  pub asks : ask_of s.message ≡ accepted s.ask
  pub fit : fits_kind kind s.ask ≡ true
  pub rights : (j : ℕ) → Named s.ask j → can j ≡ true
  pub inside : (j : ℕ) → c ≤ j → j < c + n → marks_of s.message s.ask j ≡ true
  pub outside : (j : ℕ) → (j < c) ⊎ (c + n ≤ j) → marks_of s.message s.ask j ≡ false
  pub room : 1 + length s.message ≤ 9 * n
  pub short : length s.message ≤ 255

-- every named circuit is marked
meant-all : (kind : ℕ) (can : ℕ → Bool) (c n : ℕ) (s : Step) → ask_of s.message ≡ accepted s.ask → fits_kind kind s.ask ≡ true → s.ask.circuit ≡ c → s.ask.range + 1 ≡ n → n ≤ 32
    → ((j : ℕ) → c ≤ j → j < c + n → can j ≡ true) → ((i : ℕ) → i < n → mark_of s.message s.ask.status i ≡ true) → 1 + length s.message ≤ 9 * n → length s.message ≤ 255 → Meant kind can c n s
meant-all kind can c n s e f p q b r m l k = record {
  asks = e;
  fit = f;
  rights = λ j x. r j (omega (arith, x.0)) (omega (arith, x.1));
  inside = λ j x y. marks-in s.message s.ask j (omega arith, omega arith) ∙ m (j - s.ask.circuit) (omega arith);
  outside = λ j o. marks-out s.message s.ask j (⊎_elim (λ x. inl (omega arith)) (λ x. inr (omega arith)) o);
  room = l;
  short = k;
}

module _ (can : ℕ → Bool) (c : ℕ) where
  meant-blo : c ≤ 4095 → can c ≡ true → Meant 0 can c 1 (blo_step c)
  unfolding planned mark_of
  meant-blo h r =
      meant-all 0 can c 1 (blo_step c) (asks-blo c h) refl refl refl (omega arith)
      (λ j x y. let q : j ≡ c = omega arith in rw q r)
      (λ i x. refl) (omega arith) (omega arith)

  meant-row : (kind n : ℕ) → kind ≤ 1 → 2 ≤ n → n ≤ 32 → c + n ≤ 4096 → ((j : ℕ) → c ≤ j → j < c + n → can j ≡ true) → Meant kind can c n (cgb_step c kind (n - 1) (ones (width (n - 1)) n))
  unfolding planned
  meant-row kind n k a b h r =
      let l = length-ones (width (n - 1)) n in
      let m = cgb c kind (n - 1) (ones (width (n - 1)) n) in
      meant-all kind can c n (cgb_step c kind (n - 1) (ones (width (n - 1)) n))
      (asks-cgb c kind (n - 1) (ones (width (n - 1)) n) (omega arith) l k (omega arith) (omega arith))
      (eq-eqb kind kind refl) refl (omega arith) b r
      (λ i x. mark-ones c kind (n - 1) (width (n - 1)) n i x (omega arith))
      (omega arith) (omega arith)

  -- the neighbour after it
  meant-after : c < 4095 → can c ≡ true → can (c + 1) ≡ true → Meant 1 can c 1 (cgb_step c 1 1 (1 ∷ []))
  unfolding planned
  meant-after h r s = record {
    asks = asks-cgb c 1 1 (1 ∷ []) (omega arith) refl (omega arith) (omega arith) (omega arith);
    fit = refl;
    rights = λ j x. ⊎_elim (λ q. rw (← q) r) (λ l. let q : j ≡ c + 1 = omega (arith, x.1) in rw q s) (eq-or-lt_of_le x.0);
    inside = λ j x y. (let q : j ≡ c = omega arith in let d : j - c ≡ 0 = omega arith in marks-in (cgb c 1 1 (1 ∷ [])) (cgb_ask c 1 1) j (omega arith, omega arith) ∙ mark-one c 1 1 1 (j - c) (omega arith) ∙ rw d);
    outside = λ j o.
        ⊎_elim
        (λ x. marks-out (cgb c 1 1 (1 ∷ [])) (cgb_ask c 1 1) j (inl x))
        (λ x.
        ⊎_elim
        (λ q. let d : j - c ≡ 1 = omega arith in marks-in (cgb c 1 1 (1 ∷ [])) (cgb_ask c 1 1) j (omega arith, omega arith) ∙ mark-one c 1 1 1 (j - c) (omega arith) ∙ rw d)
        (λ l. marks-out (cgb c 1 1 (1 ∷ [])) (cgb_ask c 1 1) j (inr l))
        (eq-or-lt_of_le x))
        o;
    room = omega arith;
    short = omega arith;
  }

  -- the neighbour before it
  meant-before : c ≤ 4095 → 1 ≤ c → can c ≡ true → can (c - 1) ≡ true → Meant 1 can c 1 (cgb_step (c - 1) 1 1 (2 ∷ []))
  unfolding planned
  meant-before b h r s = record {
    asks = asks-cgb (c - 1) 1 1 (2 ∷ []) (omega arith) refl (omega arith) (omega arith) (omega arith);
    fit = refl;
    rights = λ j x. ⊎_elim (λ q. rw (← q) s) (λ l. let q : j ≡ c = omega (arith, x.1) in rw q r) (eq-or-lt_of_le x.0);
    inside = λ j x y. (let d : j - (c - 1) ≡ 1 = omega arith in marks-in (cgb (c - 1) 1 1 (2 ∷ [])) (cgb_ask (c - 1) 1 1) j (omega arith, omega arith) ∙ mark-one (c - 1) 1 1 2 (j - (c - 1)) (omega arith) ∙ rw d);
    outside = λ j o.
        ⊎_elim
        (λ x.
        ⊎_elim
        (λ q. let d : j - (c - 1) ≡ 0 = omega arith in marks-in (cgb (c - 1) 1 1 (2 ∷ [])) (cgb_ask (c - 1) 1 1) j (omega arith, omega arith) ∙ mark-one (c - 1) 1 1 2 (j - (c - 1)) (omega arith) ∙ rw d)
        (λ l. marks-out (cgb (c - 1) 1 1 (2 ∷ [])) (cgb_ask (c - 1) 1 1) j (inl (omega arith)))
        (eq-or-lt_of_le x))
        (λ x. marks-out (cgb (c - 1) 1 1 (2 ∷ [])) (cgb_ask (c - 1) 1 1) j (inr (omega arith)))
        o;
    room = omega arith;
    short = omega arith;
  }

  meant-pair : c ≤ 4095 → Plannable 1 can c → Meant 1 can c 1 (paired can c)
  meant-pair h p =
      ⊎_elim
      (λ z. absurd (omega arith))
      (λ q. go (ltb c 4095) refl (can (c + 1)) refl q)
      p.1
    where
      go : (t : Bool) → ltb c 4095 ≡ t → (u : Bool) → can (c + 1) ≡ u → ((c < 4095) × (can (c + 1) ≡ true)) ⊎ ((1 ≤ c) × (can (c - 1) ≡ true))
          → Meant 1 can c 1 (when (when t then u else false) then cgb_step c 1 1 (1 ∷ []) else cgb_step (c - 1) 1 1 (2 ∷ []))
      go true t true u q = meant-after (ltb-true c 4095 t) p.0 u
      go true t false u q = ⊎_elim (λ x. absurd (true-false x.1 u)) (λ x. meant-before h x.0 p.0 x.1) q
      go false t u v q = ⊎_elim (λ x. absurd (omega (arith, ltb-false c 4095 t))) (λ x. meant-before h x.0 p.0 x.1) q

  pub meant : (kind n : ℕ) → kind ≤ 1 → 1 ≤ n → n ≤ 32 → c + n ≤ 4096 → ((j : ℕ) → c ≤ j → j < c + n → Plannable kind can j) → Meant kind can c n (step_for kind can c n)
  unfolding step_for
  meant kind n k a b h p = go (eqb n 1) refl (eqb kind 0) refl
    where
      go : (t : Bool) → eqb n 1 ≡ t → (u : Bool) → eqb kind 0 ≡ u
          → Meant kind can c n (when t then (when u then blo_step c else paired can c) else cgb_step c kind (n - 1) (ones (width (n - 1)) n))
      go true t true u =
          rw (eqb-true n 1 t, eqb-true kind 0 u) (meant-blo (omega (arith, eqb-true n 1 t)) (p c (omega arith) (omega arith)).0)
      go true t false u =
          let q : kind ≡ 1 = omega (arith, eqb-false kind 0 u) in
          rw (eqb-true n 1 t, q) (meant-pair (omega (arith, eqb-true n 1 t)) (subst (λ (x : ℕ). Plannable x can c) q (p c (omega arith) (omega arith))))
      go false t u v = meant-row kind n k (omega (arith, eqb-false n 1 t)) b h (λ j x y. (p j x y).0)
