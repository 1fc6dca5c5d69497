-- The check's definitions, a step at a time, as the code takes them.
use Prim.Native.Nat.{ℕ, zero, suc, ◌+◌, ◌-◌, ◌≤◌, ◌<◌}
use mathlib.Core.Path.{◌≡◌, refl, sym, ◌∙◌, subst}
use mathlib.Core.Bool.{Bool, true, false}
use mathlib.Core.List.{List}
use native.Mathlib.Omega.{arith}
use native.Mathlib.Nat.{add-sub_cancel_left}
use borrow.Author.Tests.{eq-eqb, ne_eqb, lt-ltb, le-ltb}
use lib.ListN.{length, drop, set, replicate, length-drop}
use lib.Seq.{drop-cons, drop-drop}
use Rattle.octets.specs.Octet.{octet, octets}
use Rattle.octets.specs.Answer.{Answer, accepted, refused, ◌then◌}
use Rattle.asks.specs.declared.Ask.{Ask}
use Rattle.asks.specs.Asks.{mark_of}
use Rattle.plans.specs.Plans.{fits_kind}
use Rattle.plans.specs.Check.{seeing, taking, told_seen, hearing, walk, agreeing, check_of}
use Rattle.rights.specs.Tables.{Tables}
use Rattle.hub.specs.Acts.{judged_of}
use Rattle.plans.specs.Turns.{check_at}

module _ (m : List ℕ) (circuit status : ℕ) where
  abbrev pub marking : ℕ → Bool
  marking c = mark_of m status (c - circuit)

  pub see-done : (c n : ℕ) (seen : List ℕ) → n ≡ 0 → seeing marking c n seen ≡ accepted seen
  unfolding seeing
  see-done c n seen e = rw e

  next : (i : ℕ) → circuit + (i + 1) ≡ suc (circuit + i)
  next i = omega arith

  pub see-marked : (i n k : ℕ) (seen : List ℕ) (b : Bool) → n ≡ suc k → b ≡ mark_of m status i → b ≡ true → octet seen (circuit + i) ≡ 0 → seeing marking (circuit + i) n seen ≡ seeing marking (circuit + (i + 1)) k (set seen (circuit + i) 1)
  unfolding seeing
  see-marked i n k seen b e p t z = rw (e, next i, add-sub_cancel_left, ← p, t, eq-eqb _ _ z)

  pub see-twice : (i n k : ℕ) (seen : List ℕ) (b : Bool) → n ≡ suc k → b ≡ mark_of m status i → b ≡ true → (octet seen (circuit + i) ≡ 0 → ⊥) → seeing marking (circuit + i) n seen ≡ refused 0 0
  unfolding seeing
  see-twice i n k seen b e p t z = rw (e, add-sub_cancel_left, ← p, t, ne_eqb _ _ z)

  pub see-unmarked : (i n k : ℕ) (seen : List ℕ) (b : Bool) → n ≡ suc k → b ≡ mark_of m status i → b ≡ false → seeing marking (circuit + i) n seen ≡ seeing marking (circuit + (i + 1)) k seen
  unfolding seeing
  see-unmarked i n k seen b e p t = rw (e, next i, add-sub_cancel_left, ← p, t)

-- along the plan, by place
module _ (judge : List ℕ → Answer Ask) (kind : ℕ) (plan : List ℕ) where
  pub walk-done : (f at : ℕ) (seen : List ℕ) → length plan ≤ at → walk judge kind f seen (drop at plan) ≡ accepted seen
  unfolding walk
  walk-done zero at seen h = rw (lib.ListN.drop_of_length-le plan h)
  walk-done (suc f) at seen h = rw (lib.ListN.drop_of_length-le plan h)

  pub walk-cut : (f g at : ℕ) (seen : List ℕ) → f ≡ suc g → at < length plan → length plan < at + 1 + octet plan at → walk judge kind f seen (drop at plan) ≡ refused 0 0
  unfolding walk
  walk-cut f g at seen e h l =
      rw (e, drop-cons plan at 0 h, lt-ltb (length (drop (suc at) plan)) (octet plan at) (omega (arith, length-drop (suc at) plan)))

  pub walk-on : (f g at : ℕ) (seen : List ℕ) → f ≡ suc g → at < length plan → at + 1 + octet plan at ≤ length plan
      → walk judge kind f seen (drop at plan) ≡ (hearing judge kind seen (octets plan (at + 1) (octet plan at)) then λ s. walk judge kind g s (drop (at + 1 + octet plan at) plan))
  unfolding walk
  walk-on f g at seen e h l =
      let s : at + 1 ≡ suc at = omega arith in
      rw (e, drop-cons plan at 0 h, le-ltb (length (drop (suc at) plan)) (octet plan at) (omega (arith, length-drop (suc at) plan)), s, drop-drop (octet plan at) (suc at) plan)

-- a message, judged
module _ (judge : List ℕ → Answer Ask) (kind : ℕ) (seen m : List ℕ) where
  pub hear-refused : (n at : ℕ) → judge m ≡ refused n at → hearing judge kind seen m ≡ refused 0 0
  unfolding hearing
  hear-refused n at e = rw e

  module _ (a : Ask) (e : judge m ≡ accepted a) where
    pub hear-unfit : fits_kind kind a ≡ false → hearing judge kind seen m ≡ refused 0 0
    unfolding hearing taking
    hear-unfit f = rw (e, f)

    pub hear-fit : fits_kind kind a ≡ true → hearing judge kind seen m ≡ seeing (marking m a.circuit a.status) a.circuit (a.range + 1) seen
    unfolding hearing taking
    hear-fit f = rw (e, f)

-- ---- the whole check
module _ (T : Tables) (ticks : List ℕ) (sender kind : ℕ) (plan : List ℕ) where
  abbrev pub walked : Answer (List ℕ)
  walked = walk (judged_of T sender) kind (length plan) (replicate 4096 0) plan

  pub check-states : (length T.states ≡ 4096 → ⊥) → false ≡ check_at T ticks sender kind plan
  unfolding check_at
  check-states h = rw (ne_eqb _ _ h)

  module _ (p : length T.states ≡ 4096) where
    pub check-owners : (length T.owners ≡ 4096 → ⊥) → false ≡ check_at T ticks sender kind plan
    unfolding check_at
    check-owners h = rw (eq-eqb _ _ p, ne_eqb _ _ h)

    module _ (q : length T.owners ≡ 4096) where
      pub check-helpers : (length T.helpers ≡ 4096 → ⊥) → false ≡ check_at T ticks sender kind plan
      unfolding check_at
      check-helpers h = rw (eq-eqb _ _ p, eq-eqb _ _ q, ne_eqb _ _ h)

      module _ (x : length T.helpers ≡ 4096) where
        pub check-ticks : (length ticks ≡ 4096 → ⊥) → false ≡ check_at T ticks sender kind plan
        unfolding check_at check_of
        check-ticks h = rw (eq-eqb _ _ p, eq-eqb _ _ q, eq-eqb _ _ x, ne_eqb _ _ h)

        module _ (r : length ticks ≡ 4096) where
          pub check-kind : 1 < kind → false ≡ check_at T ticks sender kind plan
          unfolding check_at check_of
          check-kind h = rw (eq-eqb _ _ p, eq-eqb _ _ q, eq-eqb _ _ x, eq-eqb _ _ r, lt-ltb _ _ h)

          pub check-walk : kind ≤ 1 → (w : Answer (List ℕ)) → walked ≡ w → agreeing ticks w ≡ check_at T ticks sender kind plan
          unfolding check_at check_of
          check-walk h w e = rw (eq-eqb _ _ p, eq-eqb _ _ q, eq-eqb _ _ x, eq-eqb _ _ r, le-ltb _ _ h, e)

  -- what is left of the walk has the whole's answer
  abbrev pub Going : ℕ → List ℕ → Type 0
  Going at seen = (at ≤ length plan) × ((f : ℕ) × (length plan ≤ f + at) × (walk (judged_of T sender) kind f seen (drop at plan) ≡ walked))

  pub going-starts : Going 0 (replicate 4096 0)
  going-starts = (omega arith, (length plan, omega arith, refl))

  pub going-ends : (at : ℕ) (seen : List ℕ) → Going at seen → length plan ≤ at → walked ≡ accepted seen
  going-ends at seen g h = sym g.1.2 ∙ walk-done (judged_of T sender) kind plan g.1.0 at seen h

  module _ (at n : ℕ) (seen : List ℕ) (g : Going at seen) (h : at < length plan) (e : n ≡ octet plan at) where
    pub going-cut : length plan - (at + 1) < n → walked ≡ refused 0 0
    going-cut l = sym g.1.2 ∙ walk-cut (judged_of T sender) kind plan g.1.0 (g.1.0 - 1) at seen (omega (arith, g.1.1)) h (omega arith)

    step : n ≤ length plan - (at + 1) → walked ≡ (hearing (judged_of T sender) kind seen (octets plan (at + 1) n) then λ s. walk (judged_of T sender) kind (g.1.0 - 1) s (drop (at + 1 + n) plan))
    step l = rw e (sym g.1.2 ∙ walk-on (judged_of T sender) kind plan g.1.0 (g.1.0 - 1) at seen (omega (arith, g.1.1)) h (omega arith))

    pub going-no : (ok : Bool) (left m : List ℕ) → n ≤ length plan - (at + 1) → m ≡ octets plan (at + 1) n → told_seen ok left ≡ hearing (judged_of T sender) kind seen m → ok ≡ false → walked ≡ refused 0 0
    going-no ok left m l q r t =
        let r₁ = subst (λ (x : List ℕ). told_seen ok left ≡ hearing (judged_of T sender) kind seen x) q r in
        let t₁ : told_seen ok left ≡ refused 0 0 = rw t in
        step l ∙ rw (sym r₁ ∙ t₁)

    pub going_on : (ok : Bool) (left m : List ℕ) → n ≤ length plan - (at + 1) → m ≡ octets plan (at + 1) n → told_seen ok left ≡ hearing (judged_of T sender) kind seen m → ok ≡ true → Going (at + 1 + n) left
    going_on ok left m l q r t =
        let r₁ = subst (λ (x : List ℕ). told_seen ok left ≡ hearing (judged_of T sender) kind seen x) q r in
        let t₁ : told_seen ok left ≡ accepted left = rw t in
        let s₁ = step l in
        (omega arith, (g.1.0 - 1, omega (arith, g.1.1), sym (rw (sym r₁ ∙ t₁) at s₁)))
