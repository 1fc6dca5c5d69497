-- What C can tell from the two numbers: which plans are good, that ours is,
-- and which refusal it was.
use Prim.Native.Nat.{ℕ, ◌≤◌, ◌<◌}
use mathlib.Core.Path.{◌≡◌, refl, sym, ◌∙◌, ap}
use mathlib.Core.Bool.{Bool, true, false}
use mathlib.Core.List.{List}
use mathlib.Core.Logic.{◌↔◌}
use native.Mathlib.Omega.{arith}
use lib.ListN.{take}
use Rattle.octets.specs.Octet.{AllOctets}
use Rattle.octets.specs.Answer.{Answer, accepted, refused}
use Rattle.octets.specs.Filled.{leaving}
use Rattle.octets.proofs.Answer.{one_answer}
use Rattle.telling.specs.Telling.{packed}
use Rattle.layout.specs.Container.{bit}
use Rattle.rights.specs.Tables.{Tables}
use Rattle.plans.specs.Turns.{GoodPlan, check_at}
use Rattle.plans.proofs.Turns.{check-exactly}
use Rattle.planning.specs.Outcome.{planned_of}
use Rattle.planning.proofs.Outcome.{plan-checks, plan-keeps}
use Rattle.boundary.specs.Boundary.{Given, given, given_by}
use Rattle.boundary.specs.Refuses.{Refuses}
use Rattle.boundary.proofs.Refused.{by-32-wide}
use Rattle.nights.proofs.Small.{plan-small, plan-bare}

-- 1 is yes, and nothing else is
bit-yes : (t : Bool) → bit t ≡ 1 → t ≡ true
bit-yes true e = refl
bit-yes false e = absurd (omega arith)

module _ (T : Tables) (ticks : List ℕ) (sender kind : ℕ) where
  -- the check answers 1 exactly for a good plan, and else 0
  pub one-exactly : (plan : List ℕ) → AllOctets plan → (r : ℕ) → r ≡ bit (check_at T ticks sender kind plan) → (r ≡ 1) ↔ GoodPlan T ticks sender kind plan
  one-exactly plan o r e =
      let x = check-exactly T ticks sender kind plan o in
      (λ h. x.0 (bit-yes _ (sym e ∙ h)), λ g. e ∙ ap bit (x.1 g))

  pub one_or_zero : (plan : List ℕ) (r : ℕ) → r ≡ bit (check_at T ticks sender kind plan) → r ≤ 1
  one_or_zero plan r e = go (check_at T ticks sender kind plan) e
    where
      go : (t : Bool) → r ≡ bit t → r ≤ 1
      go true q = omega arith
      go false q = omega arith

  -- the contract of the check leaves no choice
  pub check-number-determined : (plan : List ℕ) (v w : ℕ) → v ≡ bit (check_at T ticks sender kind plan) → w ≡ bit (check_at T ticks sender kind plan) → v ≡ w
  check-number-determined plan v w = one_answer

  -- a refusal of the planner is told by its number, and keeps every octet
  pub plan-refuses : (buffer : List ℕ) (r : ℕ) (left : List ℕ) → given r left ≡ given_by (planned_of T ticks sender kind buffer) → Refuses 65536 r (planned_of T ticks sender kind buffer).answer buffer left
  plan-refuses buffer r left =
      let after = (planned_of T ticks sender kind buffer).left in
      by-32-wide (planned_of T ticks sender kind buffer) r buffer left
      (λ n q. omega (arith, plan-small T ticks sender kind buffer n q))
      (λ n at q. (plan-bare T ticks sender kind buffer n at q).0)
      (λ n at q. omega (arith, (plan-bare T ticks sender kind buffer n at q).1))
      (λ n at q. plan-keeps T ticks sender kind buffer n at after (ap (λ (a : Answer ℕ). leaving a after) (sym q)))

  -- what the planner gives, the check answers with 1
  pub given-checks : (buffer : List ℕ) (r : ℕ) (left : List ℕ) → given r left ≡ given_by (planned_of T ticks sender kind buffer) → r < 65536 → bit (check_at T ticks sender kind (take r left)) ≡ 1
  given-checks buffer r left e h = go (planned_of T ticks sender kind buffer).answer refl
    where
      go : (a : Answer ℕ) → (planned_of T ticks sender kind buffer).answer ≡ a → bit (check_at T ticks sender kind (take r left)) ≡ 1
      go (accepted n) q =
          let v : r ≡ n = ap (λ (g : Given). g.value) e ∙ ap packed q in
          let l : left ≡ (planned_of T ticks sender kind buffer).left = ap (λ (g : Given). g.left) e in
          ap bit (plan-checks T ticks sender kind buffer r left (λ i. leaving (((ap accepted v) ∙ sym q) i) (l i)))
      go (refused n at) q = absurd (omega (arith, ap (λ (g : Given). g.value) e ∙ ap packed q, (plan-bare T ticks sender kind buffer n at q).0))
