-- Ticked circuits in a row, a step at a time, as the code counts them.
use Prim.Native.Nat.{ℕ, zero, suc}
use mathlib.Core.Path.{◌≡◌, refl}
use mathlib.Core.Bool.{Bool, false}
use Rattle.planning.specs.Planner.{in_row}

module _ (tick : ℕ → Bool) (c : ℕ) where
  pub row_ends : (n : ℕ) → tick c ≡ false → in_row tick c n ≡ 0
  unfolding in_row
  row_ends zero e = refl
  row_ends (suc n) e = rw e
