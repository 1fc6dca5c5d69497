-- What the count looks at, and how large it gets.
use Prim.Native.Nat.{ℕ, ◌+◌, ◌/◌, ◌%◌, ◌^◌, ◌≤◌}
use mathlib.Core.Path.{◌≡◌}
use mathlib.Core.List.{List}
use native.Mathlib.Omega.{arith}
use Rattle.octets.specs.Octet.{octet}
use Rattle.octets.proofs.Counting.{total-most}
use Rattle.octets.proofs.Sum.{total-same}
use Rattle.marks.specs.Marks.{status_bit, marks_in_lem}

-- only the bits 0 to r count: statuses that differ in spare bits alone mark as many
pub spare-uncounted : (r : ℕ) (s t : List ℕ) → ((n : ℕ) → n ≤ r → status_bit s n ≡ status_bit t n) → marks_in_lem r s ≡ marks_in_lem r t
unfolding marks_in_lem
spare-uncounted r s t h = total-same (status_bit s) (status_bit t) 0 0 (r + 1) (λ k l. h (0 + k) (omega arith))

-- no more marks than circuits
pub marks-most : (r : ℕ) (s : List ℕ) → marks_in_lem r s ≤ r + 1
unfolding marks_in_lem
marks-most r s = total-most (status_bit s) (λ i. one-most (octet s (i / 8) / 2 ^ (i % 8))) 0 (r + 1)
  where
    one-most : (x : ℕ) → x % 2 ≤ 1
    one-most x = omega arith
