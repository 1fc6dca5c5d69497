-- Everything that goes into the planner's answer is small enough for it.
use Prim.Native.Nat.{ℕ, zero, suc, ◌≤◌}
use mathlib.Core.Path.{◌≡◌, sym, ap}
use mathlib.Core.Bool.{Bool, true, false}
use mathlib.Core.List.{List}
use native.Mathlib.Omega.{arith}
use lib.ListN.{length}
use Rattle.octets.specs.Answer.{Answer, accepted, refused}
use Rattle.octets.specs.Filled.{leaving}
use Rattle.octets.proofs.Filled.{judges-filled}
use Rattle.octets.proofs.Places.{refusal-so}
use Rattle.telling.specs.Telling.{In16Bits}
use Rattle.layout.specs.Container.{bit}
use Rattle.rights.specs.Tables.{Tables}
use Rattle.plans.specs.Plans.{ticked}
use Rattle.surveys.specs.Surveys.{tick_count}
use Rattle.boundary.proofs.Places.{Bare}
use Rattle.planning.specs.Outcome.{planned_of, planned_in, plan_faults}
use Rattle.planning.proofs.Outcome.{plan-judges, plan-nine}

-- one tick for each circuit at the most
bit-most : (t : Bool) → bit t ≤ 1
bit-most true = omega arith
bit-most false = omega arith

tick-most : (tick : ℕ → Bool) (n c : ℕ) → tick_count tick c n ≤ n
unfolding tick_count
tick-most tick zero c = omega arith
tick-most tick (suc n) c = omega (arith, bit-most (tick c), tick-most tick n (suc c))

module _ (T : Tables) (ticks : List ℕ) (sender kind : ℕ) (buffer : List ℕ) where
  -- 9 octets for each of 4096 circuits
  pub plan-small : (n : ℕ) → (planned_of T ticks sender kind buffer).answer ≡ accepted n → n ≤ 36864
  plan-small n e =
      let left = (planned_of T ticks sender kind buffer).left in
      omega (arith, plan-nine T ticks sender kind buffer n left (ap (λ (a : Answer ℕ). leaving a left) (sym e)), tick-most (ticked ticks) 4096 0)

  -- a refusal has a number from 1 on, and is about no octet
  pub plan-bare : (n at : ℕ) → (planned_of T ticks sender kind buffer).answer ≡ refused n at → Bare n at
  unfolding planned_of
  plan-bare =
      refusal-so Bare _ (plan_faults T ticks sender kind (length buffer))
      (judges-filled buffer (planned_in T ticks sender kind (length buffer)) (plan_faults T ticks sender kind (length buffer)) (plan-judges T ticks sender kind (length buffer)))
      (λ at h. (omega arith, h.0), (λ at h. (omega arith, h.0), (λ at h. (omega arith, h.0), (λ at h. (omega arith, h.0), (λ at h. (omega arith, h.0), tt)))))

  -- so its answer goes into 16 bits
  pub plan-fits : In16Bits (planned_of T ticks sender kind buffer).answer
  plan-fits = (λ n q. omega (arith, plan-small n q), λ n at q. omega (arith, (plan-bare n at q).1))
