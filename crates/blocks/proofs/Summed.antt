-- The sum over a piece of a slice is the sum over its places; past the end of the rows there is
-- nothing to add.
use Prim.Native.Nat.{ℕ, zero, suc, ◌+◌, ◌-◌, ◌≤◌, min}
use mathlib.Core.Path.{◌≡◌, refl, ap}
use mathlib.Core.List.{List}
use native.Mathlib.Omega.{arith}
use lib.ListN.{length, get_or-eq_default, take, drop}
use lib.Seq.{drop-cons}
use Rattle.std.specs.List.{sum_by}
use Rattle.std.proofs.lemmas.List.Sums.{sum_by-cons}
use Rattle.octets.specs.Octet.{octet}
use Rattle.octets.specs.Sum.{total}
use Rattle.octets.proofs.Sum.{total-more, total-none}
use Rattle.rows.specs.Rows.{busy}
use Rattle.totals.specs.Blocks.{busy_in}

-- the n entries from place e on
pub summed : (f : ℕ → ℕ) (l : List ℕ) (e n : ℕ) → e + n ≤ length l → sum_by f (take n (drop e l)) ≡ total (λ i. f (octet l i)) e n
unfolding total
summed f l e zero h = refl
summed f l e (suc n) h =
    let a = sum_by-cons f (octet l e) (take n (drop (suc e) l)) in
    let b = summed f l (suc e) n (omega arith) in
    rw (drop-cons l e 0 (omega arith)) (omega (arith, a, b))

-- of m rows from row c on, the n that are there
pub rows-there : (rows : List ℕ) (c m n : ℕ) → n ≡ min (length rows - c) m → busy_in rows c n ≡ busy_in rows c m
rows-there rows c m n h =
    let p : m ≡ n + (m - n) = omega arith in
    let a = total-more (λ i. busy (octet rows i)) c n (m - n) in
    let b = total-none (λ i. busy (octet rows i)) (c + n) (m - n) (λ i l. ap busy (get_or-eq_default rows 0 {n = c + n + i} (omega arith))) in
    rw p (omega (arith, a, b))
