-- 25: no plan exists exactly where some ticked circuit cannot be planned.
use Prim.Native.Nat.{ℕ, ◌+◌, ◌-◌, ◌≤◌}
use mathlib.Core.Path.{◌≡◌, refl, sym, ◌∙◌, ap}
use mathlib.Core.Bool.{Bool, true, false}
use mathlib.Core.List.{List, [], ◌∷◌}
use mathlib.Core.Logic.{inl, inr, ⊎_elim, ◌↔◌}
use native.Mathlib.Omega.{arith}
use native.Mathlib.Nat.{eq-or-lt_of_le}
use borrow.Author.Tests.{ltb-true, ltb-false, eqb-true, eqb-false}
use lib.Dec.{eqb, ltb}
use lib.ListN.{length}
use Rattle.octets.specs.Choice.{when◌then◌else◌}
use Rattle.octets.specs.Answer.{Answer}
use Rattle.octets.proofs.Choice.{chosen, decided, true-false}
use Rattle.layout.specs.Container.{bit}
use Rattle.asks.specs.declared.Ask.{Ask}
use Rattle.rights.specs.Names.{Named}
use Rattle.hub.proofs.Called.{named-or}
use Rattle.rights.proofs.Meaning.{found_some, found_none}
use Rattle.plans.specs.Frames.{Each}
use Rattle.plans.specs.Plans.{ticked, marks_of, Step, times, JudgedStep, JudgedPlan, Grants, Plannable}
use Rattle.surveys.specs.Surveys.{can_plan, is_stuck}
use Rattle.planning.specs.Planner.{plan_of}
use Rattle.plans.proofs.Seen.{marks-out}
use Rattle.plans.proofs.Hub.{planned-acts, group-asked}
use Rattle.asks.proofs.Reading.{ask-last}
use Rattle.planning.proofs.Runs.{ticked-low, unstuck}

-- ---- a circuit that is marked is marked by a message
some-step : (judge : List ℕ → Answer Ask) (kind : ℕ) (steps : List Step) → Each (JudgedStep judge kind) steps → (c : ℕ) → 1 ≤ times steps c → (s : Step) × JudgedStep judge kind s × (marks_of s.message s.ask c ≡ true)
unfolding times
some-step judge kind [] g c h = absurd (omega arith)
some-step judge kind (s ∷ ss) g c h = go (marks_of s.message s.ask c) refl h (λ k. some-step judge kind ss g.1 c k)
  where
    go : (t : Bool) → marks_of s.message s.ask c ≡ t → 1 ≤ bit t + times ss c → (1 ≤ times ss c → (r : Step) × JudgedStep judge kind r × (marks_of r.message r.ask c ≡ true)) → (r : Step) × JudgedStep judge kind r × (marks_of r.message r.ask c ≡ true)
    go true t h ih = (s, g.0, t)
    go false t h ih = ih (omega arith)

marked-named : (m : List ℕ) (a : Ask) (c : ℕ) → marks_of m a c ≡ true → Named a c
marked-named m a c t = ⊎_elim (λ n. n) (λ o. absurd (true-false t (marks-out m a c o))) (named-or a c)

module _ (judge : List ℕ → Answer Ask) (kind : ℕ) (can : ℕ → Bool) (g : Grants judge kind can) (ticks : List ℕ) where
  -- a good plan has every ticked circuit plannable
  pub stuck : (plan : List ℕ) → JudgedPlan judge ticks kind plan → (c : ℕ) → ticked ticks c ≡ true → Plannable kind can c
  stuck plan p c t =
      let l = ticked-low ticks p.sized c t in
      let b : bit (ticked ticks c) ≡ 1 = ap bit t in
      let w = some-step judge kind p.steps p.each c (omega (arith, p.once c l)) in
      let s = w.0 in
      let n = marked-named s.message s.ask c w.2 in
      let r = g.rights s.message s.ask w.1.granted w.1.fit in
      let a = g.asks s.message s.ask w.1.granted in
      let e = ask-last s.message s.ask a in (
        r c n,
        ⊎_elim
            (λ k. inl k.1)
            (λ k.
            let o = (group-asked s.message s.ask a k.0).0 in
            inr
            (⊎_elim
            (λ q. inr (omega (arith, n.0), r (c - 1) (omega (arith, n.0), omega (arith, n.1))))
            (λ q. inl (omega arith, r (c + 1) (omega (arith, n.0), omega arith)))
            (eq-or-lt_of_le n.1)))
            (planned-acts kind s.ask.act s.ask.block w.1.fit),
      )

-- ---- the decision
pub can-plan-is : (kind : ℕ) (can : ℕ → Bool) (c : ℕ) → can_plan kind can c ≡ true → Plannable kind can c
unfolding can_plan
can-plan-is kind can c e = go (can c) (eqb kind 0) (ltb c 4095) (can (c + 1)) (eqb c 0) refl refl refl refl refl e
  where
    go : (p q r s t : Bool) → can c ≡ p → eqb kind 0 ≡ q → ltb c 4095 ≡ r → can (c + 1) ≡ s → eqb c 0 ≡ t
        → (when p then (when q then true else (when (when r then s else false) then true else (when t then false else can (c - 1)))) else false) ≡ true → Plannable kind can c
    go false q r s t a b d f h e = absurd (true-false {t = false} e refl)
    go true true r s t a b d f h e = (a, inl (eqb-true _ _ b))
    go true false true true t a b d f h e = (a, inr (inl (ltb-true _ _ d, f)))
    go true false true false true a b d f h e = absurd (true-false {t = false} e refl)
    go true false true false false a b d f h e = (a, inr (inr (omega (arith, eqb-false c 0 h), e)))
    go true false false s true a b d f h e = absurd (true-false {t = false} e refl)
    go true false false s false a b d f h e = (a, inr (inr (omega (arith, eqb-false c 0 h), e)))

pub can-plan-so : (kind : ℕ) (can : ℕ → Bool) (c : ℕ) → Plannable kind can c → can_plan kind can c ≡ true
unfolding can_plan
can-plan-so kind can c p = go (can c) (eqb kind 0) (ltb c 4095) (can (c + 1)) (eqb c 0) refl refl refl refl refl
  where
    go : (x q r s t : Bool) → can c ≡ x → eqb kind 0 ≡ q → ltb c 4095 ≡ r → can (c + 1) ≡ s → eqb c 0 ≡ t
        → (when x then (when q then true else (when (when r then s else false) then true else (when t then false else can (c - 1)))) else false) ≡ true
    go false q r s t a b d f h = absurd (true-false p.0 a)
    go true true r s t a b d f h = refl
    go true false true true t a b d f h = refl
    go true false true false true a b d f h = absurd (⊎_elim (λ z. eqb-false kind 0 b z) (⊎_elim (λ z. true-false z.1 f) (λ z. omega (arith, eqb-true c 0 h))) p.1)
    go true false true false false a b d f h = ⊎_elim (λ z. absurd (eqb-false kind 0 b z)) (⊎_elim (λ z. absurd (true-false z.1 f)) (λ z. z.1)) p.1
    go true false false s true a b d f h = absurd (⊎_elim (λ z. eqb-false kind 0 b z) (⊎_elim (λ z. omega (arith, ltb-false c 4095 d)) (λ z. omega (arith, eqb-true c 0 h))) p.1)
    go true false false s false a b d f h = ⊎_elim (λ z. absurd (eqb-false kind 0 b z)) (⊎_elim (λ z. absurd (omega (arith, ltb-false c 4095 d))) (λ z. z.1)) p.1

-- no circuit is stuck: each ticked one can be planned
pub unstuck-is : (kind : ℕ) (can tick : ℕ → Bool) → ((j : ℕ) → tick j ≡ true → j ≤ 4095) → is_stuck kind can tick ≡ false → (c : ℕ) → tick c ≡ true → Plannable kind can c
unfolding is_stuck
unstuck-is kind can tick low e c t =
    let h = found_none (λ j. when tick j then can_plan kind can j else true) 0 4096 e c (omega arith) (omega (arith, low c t)) in
    can-plan-is kind can c (sym (rw t) ∙ h)

-- one is: a ticked circuit that cannot
pub stuck-is : (kind : ℕ) (can tick : ℕ → Bool) → is_stuck kind can tick ≡ true → (c : ℕ) × (tick c ≡ true) × (Plannable kind can c → ⊥)
unfolding is_stuck
stuck-is kind can tick e =
    let f = found_some (λ j. when tick j then can_plan kind can j else true) 0 4096 e in
    ⊎_elim
    (λ t. (f.0, t.0, λ p. true-false (can-plan-so kind can f.0 p) t.1))
    (λ t. absurd (true-false {t = true} refl t.1))
    (chosen (tick f.0) f.1.bad)

module _ (judge : List ℕ → Answer Ask) (kind : ℕ) (can : ℕ → Bool) (g : Grants judge kind can) (ticks : List ℕ) (sized : length ticks ≡ 4096) (kinds : kind ≤ 1) where
  -- 25 exactly if no plan exists
  pub no-plan-exactly : (is_stuck kind can (ticked ticks) ≡ true) ↔ ((plan : List ℕ) → JudgedPlan judge ticks kind plan → ⊥)
  no-plan-exactly = (
    λ e plan p. (let s = stuck-is kind can (ticked ticks) e in s.2 (stuck judge kind can g ticks plan p s.0 s.1)),
    λ none.
        ⊎_elim
        (λ t. t)
        (λ t. absurd (none (plan_of kind can (ticked ticks)) (unstuck judge kind can ticks g sized kinds (unstuck-is kind can (ticked ticks) (ticked-low ticks sized) t))))
        (decided (is_stuck kind can (ticked ticks))),
  )

  -- in the paper's words: some ticked circuit cannot be planned
  pub no-plan-where : ((plan : List ℕ) → JudgedPlan judge ticks kind plan → ⊥) ↔ ((c : ℕ) × (ticked ticks c ≡ true) × (Plannable kind can c → ⊥))
  no-plan-where = (
    λ none. stuck-is kind can (ticked ticks) (no-plan-exactly.1 none),
    λ s plan p. s.2 (stuck judge kind can g ticks plan p s.0 s.1),
  )
