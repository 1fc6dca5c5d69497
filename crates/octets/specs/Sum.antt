-- A sum over numbers one after the other.
use Rattle.std.specs.Prelude.{ℕ, zero, suc, ◌+◌}

-- the sum of f over the n numbers from e on
unfoldable pub total : (ℕ → ℕ) → ℕ → ℕ → ℕ
total f e zero = 0
total f e (suc n) = f e + total f (suc e) n
