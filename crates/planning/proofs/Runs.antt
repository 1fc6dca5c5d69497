-- The plan: where every ticked circuit can be planned it is good, and it has 9
-- octets for each tick at the most.
use Prim.Native.Nat.{ℕ, zero, suc, ◌+◌, ◌-◌, ◌*◌, ◌≤◌, ◌<◌}
use mathlib.Core.Path.{◌≡◌, refl, sym, ◌∙◌, subst}
use mathlib.Core.Bool.{Bool, true, false}
use mathlib.Core.List.{List, ◌∷◌}
use mathlib.Core.Logic.{inl, inr, ⊎_elim}
use native.Mathlib.Omega.{arith}
use native.Mathlib.Nat.{eq-or-lt_of_le}
use borrow.Author.Tests.{ltb-true, ltb-false, le-ltb, lt-ltb}
use lib.Dec.{ltb}
use lib.ListN.{length, length-append, get_or-eq_default}
use Rattle.octets.specs.Choice.{when◌then◌else◌}
use Rattle.octets.specs.Answer.{Answer}
use Rattle.octets.proofs.Choice.{decided, true-false}
use Rattle.layout.specs.Container.{bit}
use Rattle.asks.specs.declared.Ask.{Ask}
use Rattle.plans.specs.Frames.{framed, Each}
use Rattle.plans.specs.Plans.{ticked, times, JudgedStep, messages, JudgedPlan, Grants, Plannable}
use Rattle.surveys.specs.Surveys.{tick_count}
use Rattle.planning.specs.Planner.{in_row, step_for, plan_from, plan_of}
use Rattle.planning.proofs.Meant.{Meant, meant}

-- ---- ticked circuits in a row
module _ (tick : ℕ → Bool) where
  pub row-most : (c n : ℕ) → in_row tick c n ≤ n
  unfolding in_row
  row-most c zero = omega arith
  row-most c (suc n) = go (tick c) (row-most (suc c) n)
    where
      go : (t : Bool) → in_row tick (suc c) n ≤ n → (when t then suc (in_row tick (suc c) n) else 0) ≤ suc n
      go true h = omega arith
      go false h = omega arith

  pub row-ticked : (c n j : ℕ) → c ≤ j → j < c + in_row tick c n → tick j ≡ true
  unfolding in_row
  row-ticked c zero j a b = absurd (omega arith)
  row-ticked c (suc n) j a b = go (tick c) refl (λ x y. row-ticked (suc c) n j x y) b
    where
      go : (t : Bool) → tick c ≡ t → (suc c ≤ j → j < suc c + in_row tick (suc c) n → tick j ≡ true) → j < c + (when t then suc (in_row tick (suc c) n) else 0) → tick j ≡ true
      go true t ih h = ⊎_elim (λ q. rw (← q) t) (λ l. ih l (omega arith)) (eq-or-lt_of_le a)
      go false t ih h = absurd (omega arith)

  pub row-some : (c n : ℕ) → tick c ≡ true → 1 ≤ in_row tick c (suc n)
  unfolding in_row
  row-some c n t = rw t (omega arith)

  tally-next : (c n : ℕ) → tick c ≡ false → tick_count tick c n ≡ tick_count tick (suc c) (n - 1)
  unfolding tick_count
  tally-next c zero t = refl
  tally-next c (suc n) t = let e : suc n - 1 ≡ n = omega arith in rw (t, e) (omega arith)

  pub tally-split : (c n k : ℕ) → tick_count tick c (n + k) ≡ tick_count tick c n + tick_count tick (c + n) k
  unfolding tick_count
  tally-split c zero k =
      let e : zero + k ≡ k = omega arith in
      let q : c + zero ≡ c = omega arith in
      rw (e, q) (omega arith)
  tally-split c (suc n) k =
      let e : suc n + k ≡ suc (n + k) = omega arith in
      let q : c + suc n ≡ suc c + n = omega arith in
      rw (e, q) (omega (arith, tally-split (suc c) n k))

  pub tally-row : (c n : ℕ) → ((j : ℕ) → c ≤ j → j < c + n → tick j ≡ true) → tick_count tick c n ≡ n
  unfolding tick_count
  tally-row c zero h = refl
  tally-row c (suc n) h =
      let t = h c (omega arith) (omega arith) in
      let ih = tally-row (suc c) n (λ j a b. h j (omega arith) (omega arith)) in
      rw t (omega arith)

module _ (kind : ℕ) (can tick : ℕ → Bool) (kinds : kind ≤ 1) (low : (j : ℕ) → tick j ≡ true → j ≤ 4095) (plannable : (j : ℕ) → tick j ≡ true → Plannable kind can j) where
  -- what is known at a ticked circuit
  at_row : (c : ℕ) → tick c ≡ true → (1 ≤ in_row tick c 32) × (c + in_row tick c 32 ≤ 4096) × Meant kind can c (in_row tick c 32) (step_for kind can c (in_row tick c 32))
  at_row c t =
      let n = in_row tick c 32 in
      let a : 1 ≤ n = row-some tick c 31 t in
      let b : c + n - 1 ≤ 4095 = low (c + n - 1) (row-ticked tick c 32 (c + n - 1) (omega arith) (omega arith)) in
      let h : c + n ≤ 4096 = omega arith in
      (a, h, meant can c kind n kinds a (row-most tick c 32) h (λ j x y. plannable j (row-ticked tick c 32 j x y)))

  -- each message stands
  stands : (judge : List ℕ → Answer Ask) → Grants judge kind can → (f c : ℕ) → Each (JudgedStep judge kind) (plan_from kind can tick f c)
  unfolding plan_from
  stands judge g zero c = tt
  stands judge g (suc f) c = go (tick c) refl (stands judge g f (c + in_row tick c 32)) (stands judge g f (suc c))
    where
      go : (t : Bool) → tick c ≡ t → Each (JudgedStep judge kind) (plan_from kind can tick f (c + in_row tick c 32)) → Each (JudgedStep judge kind) (plan_from kind can tick f (suc c))
          → Each (JudgedStep judge kind) (when t then step_for kind can c (in_row tick c 32) ∷ plan_from kind can tick f (c + in_row tick c 32) else plan_from kind can tick f (suc c))
      go true t x y =
          let m = (at_row c t).2 in
          (record { granted = g.takes _ _ m.asks m.fit m.rights; fit = m.fit; short = m.short }, x)
      go false t x y = y

  -- a circuit from c on is marked once where it is ticked
  marked-once : (f c : ℕ) → 4096 ≤ f + c → (j : ℕ) → j ≤ 4095 → times (plan_from kind can tick f c) j ≡ (when ltb j c then 0 else bit (tick j))
  unfolding plan_from times
  marked-once zero c h j l = rw (lt-ltb j c (omega arith))
  marked-once (suc f) c h j l = go (tick c) refl (λ n b. marked-once f (c + n) (omega arith) j l) (marked-once f (suc c) (omega arith) j l)
    where
      go : (t : Bool) → tick c ≡ t → ((n : ℕ) → 1 ≤ n → times (plan_from kind can tick f (c + n)) j ≡ (when ltb j (c + n) then 0 else bit (tick j)))
          → times (plan_from kind can tick f (suc c)) j ≡ (when ltb j (suc c) then 0 else bit (tick j))
          → times (when t then step_for kind can c (in_row tick c 32) ∷ plan_from kind can tick f (c + in_row tick c 32) else plan_from kind can tick f (suc c)) j ≡ (when ltb j c then 0 else bit (tick j))
      go true t x y =
          let w = at_row c t in
          let n = in_row tick c 32 in
          let m = w.2 in
          let r = x n w.0 in
          ⊎_elim
          (λ b.
          let lo = ltb-true j c b in
          rw (b, m.outside j (inl lo), r, lt-ltb j (c + n) (omega arith)) (omega arith))
          (λ b.
          let lo = ltb-false j c b in
          ⊎_elim
          (λ d. rw (b, m.inside j lo (ltb-true j (c + n) d), r, d, row-ticked tick c 32 j lo (ltb-true j (c + n) d)) (omega arith))
          (λ d. rw (b, m.outside j (inr (ltb-false j (c + n) d)), r, d) (omega arith))
          (decided (ltb j (c + n))))
          (decided (ltb j c))
      go false t x y =
          ⊎_elim
          (λ b. let lo = ltb-true j c b in y ∙ rw (b, lt-ltb j (suc c) (omega arith)))
          (λ b.
          let lo = ltb-false j c b in
          ⊎_elim
          (λ q. y ∙ rw (b, lt-ltb j (suc c) (omega arith), ← q, t))
          (λ k. y ∙ rw (b, le-ltb j (suc c) k))
          (eq-or-lt_of_le lo))
          (decided (ltb j c))

  -- 9 octets for each tick at the most
  nine : (f c k : ℕ) → 4096 ≤ c + k → length (framed (messages (plan_from kind can tick f c))) ≤ 9 * tick_count tick c k
  unfolding plan_from framed
  nine zero c k h = omega arith
  nine (suc f) c k h = go (tick c) refl (λ n b. nine f (c + n) (k - n) (omega arith)) (nine f (suc c) (k - 1) (omega arith))
    where
      go : (t : Bool) → tick c ≡ t → ((n : ℕ) → n ≤ k → length (framed (messages (plan_from kind can tick f (c + n)))) ≤ 9 * tick_count tick (c + n) (k - n))
          → length (framed (messages (plan_from kind can tick f (suc c)))) ≤ 9 * tick_count tick (suc c) (k - 1)
          → length (framed (messages (when t then step_for kind can c (in_row tick c 32) ∷ plan_from kind can tick f (c + in_row tick c 32) else plan_from kind can tick f (suc c)))) ≤ 9 * tick_count tick c k
      go true t x y =
          let w = at_row c t in
          let n = in_row tick c 32 in
          let b : n ≤ k = omega (arith, w.1) in
          let e : n + (k - n) ≡ k = omega arith in
          let s = tally-split tick c n (k - n) in
          let q = tally-row tick c n (row-ticked tick c 32) in
          let d : tick_count tick c k ≡ n + tick_count tick (c + n) (k - n) = subst (λ (i : ℕ). tick_count tick c i ≡ n + tick_count tick (c + n) (k - n)) e (omega arith) in
          let m = (step_for kind can c n).message in
          omega (arith, x n b, w.2.room, length-append m (framed (messages (plan_from kind can tick f (c + n)))), d)
      go false t x y = omega (arith, tally-next tick c k t)

  pub plan-room : length (plan_of kind can tick) ≤ 9 * tick_count tick 0 4096
  unfolding plan_of
  plan-room = nine 4096 0 4096 (omega arith)

  pub plan-stands : (judge : List ℕ → Answer Ask) → Grants judge kind can → Each (JudgedStep judge kind) (plan_from kind can tick 4096 0)
  plan-stands judge g = stands judge g 4096 0

  pub plan-once : (c : ℕ) → c ≤ 4095 → times (plan_from kind can tick 4096 0) c ≡ bit (tick c)
  plan-once c h = marked-once 4096 0 (omega arith) c h ∙ rw (le-ltb c 0 (omega arith))

-- a ticked circuit is in the table
pub ticked-low : (ticks : List ℕ) → length ticks ≡ 4096 → (c : ℕ) → ticked ticks c ≡ true → c ≤ 4095
ticked-low ticks l c t =
    ⊎_elim
    (λ h. let z = get_or-eq_default ticks 0 {n = c} (omega (arith, ltb-true 4095 c h)) in absurd (true-false {t = true} refl (sym t ∙ rw z)))
    (λ h. ltb-false 4095 c h)
    (decided (ltb 4095 c))

-- where every ticked circuit can be planned, the plan is good
pub unstuck : (judge : List ℕ → Answer Ask) (kind : ℕ) (can : ℕ → Bool) (ticks : List ℕ) → Grants judge kind can → length ticks ≡ 4096 → kind ≤ 1 → ((c : ℕ) → ticked ticks c ≡ true → Plannable kind can c)
    → JudgedPlan judge ticks kind (plan_of kind can (ticked ticks))
unfolding plan_of
unstuck judge kind can ticks g l k p = record {
  sized = l;
  kinds = k;
  steps = plan_from kind can (ticked ticks) 4096 0;
  frames = refl;
  each = plan-stands kind can (ticked ticks) k (ticked-low ticks l) p judge g;
  once = plan-once kind can (ticked ticks) k (ticked-low ticks l) p;
}
