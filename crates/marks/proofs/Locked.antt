-- The bits of GRA's status are the 8s of the rows.
use Prim.Native.Nat.{ℕ, zero, suc, ◌+◌, ◌-◌, ◌*◌, ◌/◌, ◌%◌, ◌^◌, ◌≤◌, ◌<◌}
use mathlib.Core.Path.{◌≡◌, sym, ◌∙◌, ap}
use mathlib.Core.List.{List}
use native.Mathlib.Omega.{arith}
use native.Mathlib.Nat.{add-zero, pow-suc, mul_comm, div-div-eq-div-mul, div-one, div-eq_of_lt}
use mathlib.Core.Logic.{⊎_elim}
use lib.Dec.{ltb}
use lib.Pow.{pow_mono}
use Rattle.octets.proofs.Choice.{decided}
use Rattle.octets.specs.Octet.{octet}
use Rattle.rows.specs.Rows.{local}
use Rattle.marks.specs.Marks.{bits_in_lem, locked_bits}

-- eight bits at the most
pub bits_most : (range j : ℕ) → bits_in_lem range j ≤ 8
unfolding bits_in_lem
bits_most range j = ⊎_elim (λ t. rw t (omega arith)) (λ t. rw t (omega arith)) (decided (ltb j (range / 8)))

module _ (group : List ℕ) where
  -- n bits
  pub locked-small : (i n : ℕ) → locked_bits group i n < 2 ^ n
  unfolding locked_bits
  locked-small i zero = omega arith
  locked-small i (suc n) = let h = locked-small (suc i) n in let p = pow-suc 2 n in omega (arith, h, p)

  -- seven bits at the most leave room for one more
  pub locked-few : (i n : ℕ) → n ≤ 7 → locked_bits group i n < 128
  locked-few i n h = let a = locked-small i n in let b : 2 ^ n ≤ 2 ^ 7 = pow_mono h in omega (arith, a, b)

  -- no row
  pub locked-none : (i n : ℕ) → n ≡ 0 → locked_bits group i n ≡ 0
  unfolding locked_bits
  locked-none i n e = rw e

  -- all of them
  pub locked-all : (i b n : ℕ) → b ≡ 0 → locked_bits group (i + b) (n - b) ≡ locked_bits group i n
  locked-all i b n e = let p : i + b ≡ i = omega arith in let q : n - b ≡ n = omega arith in rw (p, q)

  -- one row more, in front
  pub locked-more : (i j n n' v w : ℕ) → n' ≡ suc n → j ≡ suc i → w ≡ octet group i → v ≡ locked_bits group j n → v * 2 + w / 8 % 2 ≡ locked_bits group i n'
  unfolding locked_bits
  locked-more i j n n' v w e q r s = rw (e, r, s, q) (omega arith)

  -- bit k of them is that of row i+k
  pub locked-bit : (i n k : ℕ) → k < n → locked_bits group i n / 2 ^ k % 2 ≡ local (octet group (i + k))
  unfolding locked_bits
  locked-bit i zero k h = absurd (omega arith)
  locked-bit i (suc n) zero h = rw (div-one, add-zero) (omega arith)
  locked-bit i (suc n) (suc k) h = down ∙ locked-bit (suc i) n k (omega arith) ∙ ap (λ (x : ℕ). local (octet group x)) (omega arith)
    where
      down : (local (octet group i) + 2 * locked_bits group (suc i) n) / 2 ^ suc k % 2 ≡ locked_bits group (suc i) n / 2 ^ k % 2
      down =
          let a : (local (octet group i) + 2 * locked_bits group (suc i) n) / 2 ≡ locked_bits group (suc i) n = omega arith in
          ap (λ (x : ℕ). (local (octet group i) + 2 * locked_bits group (suc i) n) / x % 2) (pow-suc 2 k ∙ mul_comm (2 ^ k) 2)
          ∙ ap (λ (x : ℕ). x % 2) (sym (div-div-eq-div-mul (local (octet group i) + 2 * locked_bits group (suc i) n) 2 (2 ^ k)) ∙ ap (λ (x : ℕ). x / 2 ^ k) a)

  -- past them there is none
  pub locked-past : (i n k : ℕ) → n ≤ k → locked_bits group i n / 2 ^ k % 2 ≡ 0
  locked-past i n k h =
      let a = locked-small i n in
      let b : 2 ^ n ≤ 2 ^ k = pow_mono h in
      ap (λ (x : ℕ). x % 2) (div-eq_of_lt {n = locked_bits group i n} {m = 2 ^ k} (omega (arith, a, b)))
