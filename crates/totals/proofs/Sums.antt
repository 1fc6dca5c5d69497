-- Laws of the sums: how many rows are busy, and a step of a loop that adds them up.
use Prim.Native.Nat.{ℕ, ◌+◌, ◌*◌, ◌%◌, ◌≤◌}
use mathlib.Core.Path.{◌≡◌, refl, sym, ap}
use mathlib.Core.List.{List}
use native.Mathlib.Omega.{arith}
use lib.ListN.{length, get_or-eq_default}
use Rattle.octets.specs.Octet.{octet}
use Rattle.octets.specs.Sum.{total}
use Rattle.octets.proofs.Counting.{total-most}
use Rattle.octets.proofs.Sum.{total-none}
use Rattle.rows.specs.Rows.{busy}
use Rattle.totals.specs.Blocks.{busy_in, block_count_lem}

-- nothing was added yet
pub total-start : (f : ℕ → ℕ) (e : ℕ) → 0 ≡ total f e 0
unfolding total
total-start f e = refl

-- no more busy rows than rows
pub busy-most : (rows : List ℕ) (c n : ℕ) → busy_in rows c n ≤ n
busy-most rows c n = total-most (λ i. busy (octet rows i)) (λ i. one-most (octet rows i)) c n
  where
    one-most : (x : ℕ) → x % 2 ≤ 1
    one-most x = omega arith

-- past the end there is none
busy-past : (rows : List ℕ) (c n : ℕ) → length rows ≤ c → busy_in rows c n ≡ 0
busy-past rows c n h = total-none (λ i. busy (octet rows i)) c n (λ k l. ap busy (get_or-eq_default rows 0 {n = c + k} (omega arith)))

-- a block past the end
pub block-past : (rows : List ℕ) (k : ℕ) → length rows ≤ 64 * k → 0 ≡ block_count_lem rows k
block-past rows k h = sym (busy-past rows (64 * k) 64 h)
