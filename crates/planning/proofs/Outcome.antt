-- The planner's answer, in the paper's words, and that the check accepts what it gives.
use Prim.Native.Nat.{ℕ, ◌*◌, ◌≤◌}
use mathlib.Core.Path.{◌≡◌, refl, sym, ◌∙◌, ap, subst}
use mathlib.Core.Bool.{Bool, true, false}
use mathlib.Core.List.{List}
use mathlib.Core.Logic.{◌⊎◌, inl, inr, ⊎_elim, ◌↔◌}
use native.Mathlib.Omega.{arith}
use borrow.Author.Tests.{eqb-true, eqb-false, ltb-true, ltb-false}
use lib.Dec.{ltb, eqb}
use lib.ListN.{length, take}
use Rattle.std.specs.Prelude.{Result, is_some}
use Rattle.octets.specs.Octet.{octet}
use Rattle.octets.specs.Choice.{when◌then◌else◌}
use Rattle.octets.specs.Answer.{accepted, refused}
use Rattle.octets.specs.Filled.{leaving}
use Rattle.octets.specs.Faults.{fault, Judges}
use Rattle.octets.specs.Told.{told}
use Rattle.octets.specs.declared.Refusal.{Refusal}
use Rattle.octets.proofs.Answer.{refused-accepted, accepted-same, past-test}
use Rattle.octets.proofs.Choice.{chosen, true-false}
use Rattle.octets.proofs.Faults.{judges-if, judges-there, judges-absent, judges-done}
use Rattle.octets.proofs.Filled.{done-accepted, take-filled}
use Rattle.octets.proofs.Told.{writing-determined, writing-keeps}
use Rattle.rows.specs.Rows.{is_legal}
use Rattle.rows.proofs.Legality.{legal-is, is-legal}
use Rattle.rights.specs.Tables.{Tables, sized}
use Rattle.rights.specs.Rights.{first_illegal_lem}
use Rattle.hub.specs.Acts.{judged_of}
use Rattle.rights.specs.Faults.{WrongTables}
use Rattle.rights.proofs.Meaning.{found_none, found_some}
use Rattle.plans.specs.Plans.{ticked, JudgedPlan, Grants, Plannable}
use Rattle.surveys.specs.Surveys.{tick_count, is_stuck}
use Rattle.plans.specs.Turns.{AllLegal, may_block_lem, GoodPlan, check_at}
use Rattle.planning.specs.Outcome.{sized_all, plan_for, planned_in, planned_of, NoPlan, plan_faults}
use Rattle.planning.proofs.Runs.{ticked-low, unstuck, plan-room}
use Rattle.planning.proofs.Stuck.{unstuck-is, no-plan-exactly, no-plan-where}
use Rattle.plans.proofs.Hub.{hub-grants}
use Rattle.plans.proofs.Turns.{both, in-turn-good, good-in-turn, good-accepted}

-- one of the two is not so
either : (s t : Bool) → (when s then t else false) ≡ false → (s ≡ false) ⊎ (t ≡ false)
either true t e = inr e
either false t e = inl refl

-- the four tables have their lengths
record Sized (T : Tables) (ticks : List ℕ) : Type 0 where
  for-states : length T.states ≡ 4096
  for-owners : length T.owners ≡ 4096
  for-helpers : length T.helpers ≡ 4096
  for-ticks : length ticks ≡ 4096

module _ (T : Tables) (ticks : List ℕ) where
  sized-is : sized_all T ticks ≡ true → Sized T ticks
  sized-is e =
      let a = both (sized T) (eqb (length ticks) 4096) e in
      let b = both (eqb (length T.states) 4096) (when eqb (length T.owners) 4096 then eqb (length T.helpers) 4096 else false) a.0 in
      let c = both (eqb (length T.owners) 4096) (eqb (length T.helpers) 4096) b.1 in
      record { for-states = eqb-true _ _ b.0; for-owners = eqb-true _ _ c.0; for-helpers = eqb-true _ _ c.1; for-ticks = eqb-true _ _ a.1 }

  wrong-is : sized_all T ticks ≡ false → WrongTables T ⊎ (length ticks ≡ 4096 → ⊥)
  wrong-is e =
      ⊎_elim
      (λ a. inl
      (⊎_elim
      (λ b. inl (eqb-false _ _ b))
      (λ b. inr (⊎_elim (λ c. inl (eqb-false _ _ c)) (λ c. inr (eqb-false _ _ c)) (either (eqb (length T.owners) 4096) (eqb (length T.helpers) 4096) b)))
      (either (eqb (length T.states) 4096) (when eqb (length T.owners) 4096 then eqb (length T.helpers) 4096 else false) a)))
      (λ a. inr (eqb-false _ _ a))
      (either (sized T) (eqb (length ticks) 4096) e)

module _ (T : Tables) (ticks : List ℕ) (sender kind : ℕ) where
  abbrev can : ℕ → Bool
  can = may_block_lem kind T.owners T.helpers sender

  abbrev found : List ℕ
  found = plan_for T.owners T.helpers ticks sender kind

  all-legal : is_some (first_illegal_lem T.states 0 4096) ≡ false → AllLegal T.states
  all-legal e c h = found_none (λ j. is_legal (octet T.states j)) 0 4096 e c (omega arith) (omega arith)

  module _ (s : Sized T ticks) (k : kind ≤ 1) (l : AllLegal T.states) where
    grants : Grants (judged_of T sender) kind can
    grants = hub-grants T sender s.for-states s.for-owners s.for-helpers l kind

    stuck-none : is_stuck kind can (ticked ticks) ≡ true → NoPlan T ticks sender kind
    stuck-none e plan g = (no-plan-exactly (judged_of T sender) kind can grants ticks s.for-ticks k).0 e plan (in-turn-good T ticks sender kind plan g)

    -- what has no plan in turn has none that is judged
    none-judged : NoPlan T ticks sender kind → (plan : List ℕ) → JudgedPlan (judged_of T sender) ticks kind plan → ⊥
    none-judged none plan g = none plan (good-in-turn T ticks sender kind plan s.for-states s.for-owners s.for-helpers g)

    none_stuck : is_stuck kind can (ticked ticks) ≡ false → NoPlan T ticks sender kind → ⊥
    none_stuck e none = true-false ((no-plan-exactly (judged_of T sender) kind can grants ticks s.for-ticks k).1 (none-judged none)) e

    -- the planner's plan is good
    plan-good : is_stuck kind can (ticked ticks) ≡ false → GoodPlan T ticks sender kind found
    plan-good e =
        good-in-turn T ticks sender kind _ s.for-states s.for-owners s.for-helpers
        (unstuck (judged_of T sender) kind can ticks grants s.for-ticks k (unstuck-is kind can (ticked ticks) (ticked-low ticks s.for-ticks) e))

    -- and fits where there are 9 octets for each tick
    plan-fits : is_stuck kind can (ticked ticks) ≡ false → length found ≤ 9 * tick_count (ticked ticks) 0 4096
    plan-fits e = plan-room kind can (ticked ticks) k (ticked-low ticks s.for-ticks) (unstuck-is kind can (ticked ticks) (ticked-low ticks s.for-ticks) e)

  -- the decision, over all plans: with legal rows there is none exactly where some ticked circuit
  -- cannot be planned: for maintenance it is neither owned nor helped; for hardware it is not
  -- owned, or no neighbour is
  pub no-plan-decided : length T.states ≡ 4096 → length T.owners ≡ 4096 → length T.helpers ≡ 4096 → length ticks ≡ 4096 → kind ≤ 1 → AllLegal T.states
      → NoPlan T ticks sender kind ↔ ((c : ℕ) × (ticked ticks c ≡ true) × (Plannable kind can c → ⊥))
  no-plan-decided p q h t k l =
      let s : Sized T ticks = record { for-states = p; for-owners = q; for-helpers = h; for-ticks = t } in
      let w = no-plan-where (judged_of T sender) kind can (grants s k l) ticks t k in (
        λ none. w.0 (none-judged s k l none),
        λ d plan g. w.1 d plan (in-turn-good T ticks sender kind plan g),
      )

  -- refused with the first fault in the paper's order, and with none it is accepted
  pub plan-judges : (room : ℕ) → Judges (planned_in T ticks sender kind room) (plan_faults T ticks sender kind room)
  unfolding planned_in
  plan-judges room = go (sized_all T ticks) refl
    where
      go : (t : Bool) → sized_all T ticks ≡ t
          → Judges {A = ℕ × List ℕ} (when t then (when ltb 1 kind then refused 14 0 else (when is_some (first_illegal_lem T.states 0 4096) then refused 20 0 else (when is_stuck kind can (ticked ticks) then refused 25 0 else (when ltb room (9 * tick_count (ticked ticks) 0 4096) then refused 13 0 else accepted (length found, found))))) else refused 16 0)
          (plan_faults T ticks sender kind room)
      go false e = judges-there (fault 16 0 _) _ 0 (refl, wrong-is T ticks e) (λ at h. h.0)
      go true e =
          let s = sized-is T ticks e in
          judges-absent (fault 16 0 _) (λ at h. ⊎_elim (⊎_elim (λ x. x s.for-states) (⊎_elim (λ x. x s.for-owners) (λ x. x s.for-helpers))) (λ x. x s.for-ticks) h.1)
          (judges-if (ltb 1 kind) (ltb-true 1 kind) (λ t x. (let y = ltb-false 1 kind t in omega arith))
          (λ k.
          judges-if (is_some (first_illegal_lem T.states 0 4096))
          (λ t. (let f = found_some (λ j. is_legal (octet T.states j)) 0 4096 t in (f.0, omega (arith, f.1.within), λ h. true-false (is-legal _ h) f.1.bad)))
          (λ t x. x.2 (legal-is _ (all-legal t x.0 x.1)))
          (λ l.
          judges-if (is_stuck kind can (ticked ticks))
          (stuck-none s (ltb-false 1 kind k) (all-legal l))
          (none_stuck s (ltb-false 1 kind k) (all-legal l))
          (λ u.
          judges-if (ltb room (9 * tick_count (ticked ticks) 0 4096)) (ltb-true _ _) (λ t x. (let y = ltb-false room (9 * tick_count (ticked ticks) 0 4096) t in omega arith))
          (λ w. judges-done _)))))

  -- what is accepted: the plan, which is good, and has 9 octets for each tick at the most
  accepted-plan : (room : ℕ) (x : ℕ × List ℕ) → planned_in T ticks sender kind room ≡ accepted x
      → (x.0 ≡ length x.1) × (length x.1 ≤ 9 * tick_count (ticked ticks) 0 4096) × (9 * tick_count (ticked ticks) 0 4096 ≤ room) × GoodPlan T ticks sender kind x.1
  unfolding planned_in
  accepted-plan room x e =
      ⊎_elim
      (λ a.
      let s = sized-is T ticks a.0 in
      let k = past-test 14 0 (ltb 1 kind) a.1 in
      let l = past-test 20 0 (is_some (first_illegal_lem T.states 0 4096)) k.1 in
      let u = past-test 25 0 (is_stuck kind can (ticked ticks)) l.1 in
      let r = past-test 13 0 (ltb room (9 * tick_count (ticked ticks) 0 4096)) u.1 in
      let q = accepted-same r.1 in
      let f = plan-fits s (ltb-false 1 kind k.0) (all-legal l.0) u.0 in
      subst (λ (y : ℕ × List ℕ). (y.0 ≡ length y.1) × (length y.1 ≤ 9 * tick_count (ticked ticks) 0 4096) × (9 * tick_count (ticked ticks) 0 4096 ≤ room) × GoodPlan T ticks sender kind y.1) q
      (refl, f, ltb-false room (9 * tick_count (ticked ticks) 0 4096) r.0, plan-good s (ltb-false 1 kind k.0) (all-legal l.0) u.0))
      (λ a. absurd (refused-accepted a.1))
      (chosen (sized_all T ticks) e)

  -- what the planner gives is a good plan: the first n octets of the buffer
  given-good : (buffer : List ℕ) (n : ℕ) (left : List ℕ) → leaving (accepted n) left ≡ planned_of T ticks sender kind buffer → GoodPlan T ticks sender kind (take n left)
  unfolding planned_of
  given-good buffer n left e =
      let d = done-accepted buffer (planned_in T ticks sender kind (length buffer)) (sym e) in
      let g = accepted-plan (length buffer) (n, d.0) d.1 in
      let t : take n left ≡ d.0 = ap (take n) d.2 ∙ take-filled d.0 buffer n g.0 in
      subst (λ (p : List ℕ). GoodPlan T ticks sender kind p) (sym t) g.3

  -- the check accepts it
  pub plan-checks : (buffer : List ℕ) (n : ℕ) (left : List ℕ) → leaving (accepted n) left ≡ planned_of T ticks sender kind buffer → check_at T ticks sender kind (take n left) ≡ true
  plan-checks buffer n left e = good-accepted T ticks sender kind (take n left) (given-good buffer n left e)

  -- and it never has more than 9 octets for each ticked circuit
  pub plan-nine : (buffer : List ℕ) (n : ℕ) (left : List ℕ) → leaving (accepted n) left ≡ planned_of T ticks sender kind buffer → n ≤ 9 * tick_count (ticked ticks) 0 4096
  unfolding planned_of
  plan-nine buffer n left e =
      let d = done-accepted buffer (planned_in T ticks sender kind (length buffer)) (sym e) in
      let g = accepted-plan (length buffer) (n, d.0) d.1 in
      omega (arith, g.0, g.1)

  -- a refusal keeps every octet
  pub plan-keeps : (buffer : List ℕ) (n at : ℕ) (left : List ℕ) → leaving (refused n at) left ≡ planned_of T ticks sender kind buffer → left ≡ buffer
  unfolding planned_of
  plan-keeps buffer = writing-keeps buffer (planned_in T ticks sender kind (length buffer))

  -- the contract leaves no choice
  pub plan-determined : (buffer : List ℕ) (r s : Result ℕ Refusal) (x y : List ℕ) → leaving (told r) x ≡ planned_of T ticks sender kind buffer → leaving (told s) y ≡ planned_of T ticks sender kind buffer → (r ≡ s) × (x ≡ y)
  plan-determined buffer = writing-determined (planned_of T ticks sender kind buffer)
