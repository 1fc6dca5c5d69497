-- Ticked circuits in a row, as `take_while` counts them.
use Prim.Native.Nat.{ℕ, zero, suc, ◌+◌, ◌<◌}
use mathlib.Core.Path.{◌≡◌, refl, sym, ◌∙◌, ap}
use mathlib.Core.Bool.{Bool, true, false, not, cond}
use mathlib.Core.List.{List}
use native.Mathlib.Omega.{arith}
use native.Mathlib.Decide.{dec_lt}
use lib.Dec.{eqb}
use lib.ListN.{length, take, drop, drop_of_length-le}
use lib.Seq.{drop-cons}
use Rattle.std.specs.List.{prefix_len}
use Rattle.octets.specs.Choice.{when◌then◌else◌}
use Rattle.plans.specs.Plans.{ticked}
use Rattle.surveys.proofs.Looks.{past-table}
use Rattle.planning.specs.Planner.{in_row}
use Rattle.planning.proofs.Counts.{row_ends}

pub row-counted : (ticks : List ℕ) (c n : ℕ) → prefix_len (λ (x : ℕ). not (eqb x 0)) (take n (drop c ticks)) ≡ in_row (ticked ticks) c n
unfolding in_row
row-counted ticks c zero = refl
row-counted ticks c (suc n) = go (dec_lt c (length ticks)) (row-counted ticks (suc c) n)
  where
    step : (b : Bool) {m k : ℕ} → m ≡ k → cond b (1 + m) 0 ≡ (when b then suc k else 0)
    step true e = omega (arith, e)
    step false e = refl

    p : ℕ → Bool
    p x = not (eqb x 0)

    go : Dec (c < length ticks) → prefix_len p (take n (drop (suc c) ticks)) ≡ in_row (ticked ticks) (suc c) n → prefix_len p (take (suc n) (drop c ticks)) ≡ in_row (ticked ticks) c (suc n)
    go (yes h) e = ap (λ (l : List ℕ). prefix_len p (take (suc n) l)) (drop-cons ticks c 0 h) ∙ step (ticked ticks c) e
    go (no h) e = ap (λ (l : List ℕ). prefix_len p (take (suc n) l)) (drop_of_length-le ticks (omega (arith, h))) ∙ sym (row_ends (ticked ticks) c (suc n) (past-table ticks c (omega (arith, h))))
