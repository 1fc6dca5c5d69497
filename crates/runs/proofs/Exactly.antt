-- A run that is lent by itself: whole exactly when the standard says so.
use Prim.Native.Nat.{ℕ, ◌≤◌}
use mathlib.Core.Path.{◌≡◌, refl, ap, subst}
use mathlib.Core.Bool.{true, false}
use mathlib.Core.List.{List}
use mathlib.Core.Logic.{inl, inr, ⊎_elim, ◌↔◌}
use native.Mathlib.Omega.{arith}
use lib.ListN.{length}
use Rattle.runs.specs.declared.Stop.{Stop}
use Rattle.runs.specs.declared.Stop.TheVariants.{Closed, Ended, Passed}
use Rattle.runs.specs.Run.{stop_from, is_run_lem, ended}
use Rattle.runs.specs.Params.{Param, Params, BadRun}
use Rattle.runs.proofs.Runs.{params-inside, stop-from, from-stop}

-- a run that is lent by itself is whole exactly when it is parameters to its very end
pub is-run-exactly : (r : List ℕ) → (is_run_lem r ≡ true) ↔ ((qs : List Param) × Params r 0 qs (length r))
unfolding is_run_lem
is-run-exactly r = (λ h. there (stop_from r 0) refl h, λ x. ap ended (stop-from x.0 r 0 (Ended (length r)) x.1 (omega arith)))
  where
    there : (x : Stop) → stop_from r 0 ≡ x → ended x ≡ true → (qs : List Param) × Params r 0 qs (length r)
    there (Closed z) e h = absurd (let z : ◌≡◌ {A = ℕ} 0 1 = cc in omega arith)
    there (Passed z) e h = absurd (let z : ◌≡◌ {A = ℕ} 0 1 = cc in omega arith)
    there (Ended z) e h =
        let x = from-stop r 0 (Ended z) e in
        let a : length r ≤ z = x.2 in
        let q : z ≡ length r = omega (arith, params-inside x.0 r 0 z (omega arith) x.1) in
        (x.0, subst (λ (y : ℕ). Params r 0 x.0 y) q x.1)

-- a run that is lent by itself: whole, or it has one of the two faults
pub bad-run-exactly : (r : List ℕ) → (is_run_lem r ≡ false) ↔ BadRun r
unfolding is_run_lem
bad-run-exactly r = (
  λ h. there (stop_from r 0) refl h,
  λ x. ⊎_elim
      (λ c. ap ended (stop-from x.1 r 0 (Closed x.0) x.2 c))
      (λ c. ap ended (stop-from x.1 r 0 (Passed x.0) x.2 c))
      x.3,
)
  where
    there : (x : Stop) → stop_from r 0 ≡ x → ended x ≡ false → BadRun r
    there (Closed z) e h = let y = from-stop r 0 (Closed z) e in (z, y.0, y.1, inl y.2)
    there (Passed z) e h = let y = from-stop r 0 (Passed z) e in (z, y.0, y.1, inr y.2)
    there (Ended z) e h = absurd (let z : ◌≡◌ {A = ℕ} 0 1 = cc in omega arith)
