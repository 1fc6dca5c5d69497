-- The ones of octets, counted octet by octet, are the bits of the status, counted one by one.
use Prim.Native.Nat.{ℕ, zero, suc, ◌+◌, ◌-◌, ◌*◌, ◌/◌, ◌%◌, ◌^◌, ◌≤◌, ◌<◌}
use mathlib.Core.Path.{◌≡◌, refl, sym, ◌∙◌, ap}
use mathlib.Core.List.{List}
use native.Mathlib.Omega.{arith}
use native.Mathlib.Nat.{pow-suc, div-div-eq-div-mul, mod-lt, div-one, zero-div}
use lib.ListN.{length, take, get_or-eq_default}
use lib.Count.{ones_in, ones, ones_step}
use lib.Pow.{pow_pos, field, mod-mod-pow}
use Rattle.std.specs.List.{sum_by}
use Rattle.std.proofs.lemmas.List.Sums.{sum_by_more}
use Rattle.octets.specs.Octet.{octet, AllOctets}
use Rattle.octets.specs.Sum.{total}
use Rattle.octets.proofs.Sum.{total-front, total-same, total-none}
use Rattle.marks.specs.Marks.{status_bit, cut_to, marks_in_lem}

-- a number's digits from digit e on, d of them where it has no more
ones-from : (x d e : ℕ) → x / 2 ^ e < 2 ^ d → total (λ k. x / 2 ^ k % 2) e d ≡ ones (x / 2 ^ e)
unfolding ones ones_in total
ones-from x zero e h = let z : x / 2 ^ e ≡ 0 = omega (arith, h) in rw z
ones-from x (suc d) e h =
    let p : x / 2 ^ suc e ≡ x / 2 ^ e / 2 = ap (λ (n : ℕ). x / n) (pow-suc 2 e) ∙ sym (div-div-eq-div-mul x (2 ^ e) 2) in
    let l : x / 2 ^ suc e < 2 ^ d = omega (arith, p, pow-suc 2 d) in
    let r = ones-from x d (suc e) l in
    let s = ones_step (x / 2 ^ e) in
    let t = ap ones p in
    omega (arith, r, s, t)

pub octet-ones : (x d : ℕ) → x < 2 ^ d → total (λ k. x / 2 ^ k % 2) 0 d ≡ ones x
octet-ones x d h = ones-from x d 0 (rw div-one h) ∙ rw div-one

-- the bits of octet j of the status, n of them
bits_of : (status : List ℕ) (j n : ℕ) → n ≤ 8 → total (status_bit status) (8 * j) n ≡ total (λ k. octet status j / 2 ^ k % 2) 0 n
bits_of status j n h =
    total-same (status_bit status) (λ k. octet status j / 2 ^ k % 2) (8 * j) 0 n
    (λ k l. let p : (8 * j + k) / 8 ≡ j = omega arith in let q : (8 * j + k) % 8 ≡ 0 + k = omega arith in rw (p, q))

-- a bit below the cut is kept
pub kept-bit : (x j k : ℕ) → j ≤ k → x % 2 ^ (k + 1) / 2 ^ j % 2 ≡ x / 2 ^ j % 2
kept-bit x j k h =
    let p : k + 1 ≡ (k - j + 1) + j = omega arith in
    ap (λ (n : ℕ). x % 2 ^ n / 2 ^ j % 2) p ∙ ap (λ (n : ℕ). n % 2) (field x (k - j + 1) j) ∙ mod-mod-pow (x / 2 ^ j) (k - j) 1

-- the cut octet's ones are its low bits
cut_ones : (x k : ℕ) → total (λ j. x / 2 ^ j % 2) 0 (k + 1) ≡ ones (x % 2 ^ (k + 1))
cut_ones x k =
    total-same (λ j. x / 2 ^ j % 2) (λ j. x % 2 ^ (k + 1) / 2 ^ j % 2) 0 0 (k + 1) (λ j l. sym (kept-bit x (0 + j) k (omega arith)))
    ∙ octet-ones (x % 2 ^ (k + 1)) (k + 1) (mod-lt x (pow_pos (k + 1)))

module _ (status : List ℕ) where
  -- one octet more
  more-ones : (j n : ℕ) → octet status j < 256 → n ≡ total (status_bit status) 0 (8 * j) → n + ones (octet status j) ≡ total (status_bit status) 0 (8 * (j + 1))
  more-ones j n h e =
      let p : 8 * (j + 1) ≡ 8 * j + 8 = omega arith in
      let a = total-front (status_bit status) (8 * j) 8 in
      let b = bits_of status j 8 (omega arith) in
      let d = octet-ones (octet status j) 8 h in
      rw p (omega (arith, a, b, d))

  -- the first n octets
  pub whole-ones : (n : ℕ) → n ≤ length status → AllOctets status → sum_by ones (take n status) ≡ total (status_bit status) 0 (8 * n)
  unfolding total
  whole-ones zero h o = refl
  whole-ones (suc n) h o =
      let p : suc n ≡ n + 1 = omega arith in
      let a = sum_by_more ones status n 0 (omega arith) in
      rw p (a ∙ more-ones n (sum_by ones (take n status)) (o n) (whole-ones n (omega arith) o))

  -- with the last octet
  pub last-ones : (r n : ℕ) → n ≡ total (status_bit status) 0 (8 * (r / 8)) → n + ones (cut_to (octet status (r / 8)) r) ≡ marks_in_lem r status
  unfolding marks_in_lem
  last-ones r n e =
      let p : r + 1 ≡ 8 * (r / 8) + (r % 8 + 1) = omega arith in
      let a = total-front (status_bit status) (8 * (r / 8)) (r % 8 + 1) in
      let b = bits_of status (r / 8) (r % 8 + 1) (omega arith) in
      let d = cut_ones (octet status (r / 8)) (r % 8) in
      rw p (omega (arith, a, b, d))

  -- past the status's end there are none
  pub short-ones : (r n : ℕ) → length status ≤ r / 8 → n ≡ total (status_bit status) 0 (8 * length status) → n ≡ marks_in_lem r status
  unfolding marks_in_lem
  short-ones r n h e =
      let p : r + 1 ≡ 8 * length status + (r + 1 - 8 * length status) = omega arith in
      let a = total-front (status_bit status) (8 * length status) (r + 1 - 8 * length status) in
      let b = total-none (status_bit status) (8 * length status) (r + 1 - 8 * length status) (λ k l. past (8 * length status + k) (omega arith)) in
      rw p (omega (arith, a, b))
    where
      past : (i : ℕ) → length status ≤ i / 8 → status_bit status i ≡ 0
      past i g = ap (λ (x : ℕ). x / 2 ^ (i % 8) % 2) (get_or-eq_default status 0 {n = i / 8} g) ∙ ap (λ (x : ℕ). x % 2) (zero-div (2 ^ (i % 8)))
