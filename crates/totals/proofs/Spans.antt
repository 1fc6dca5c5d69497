-- Sums from one number up to another.
use Prim.Native.Nat.{ℕ, zero, suc, ◌+◌, ◌-◌, ◌*◌, ◌≤◌, ◌<◌}
use mathlib.Core.Path.{◌≡◌, refl, sym, ◌∙◌, ap}
use native.Mathlib.Omega.{arith}
use Rattle.octets.specs.Sum.{total}
use Rattle.octets.proofs.Sum.{total-more, total-same, total-none}
use Rattle.totals.proofs.Sums.{total-start}

-- from x to z by way of y
pub total-by : (f : ℕ → ℕ) (x y z : ℕ) → x ≤ y → y ≤ z → total f x (z - x) ≡ total f x (y - x) + total f y (z - y)
total-by f x y z h k =
    let p : z - x ≡ (y - x) + (z - y) = omega arith in
    let q : x + (y - x) ≡ y = omega arith in
    ap (λ (n : ℕ). total f x n) p ∙ total-more f x (y - x) (z - y) ∙ ap (λ (e : ℕ). total f x (y - x) + total f e (z - y)) q

-- zeros from x to y
pub none_between : (f : ℕ → ℕ) (x y : ℕ) → ((i : ℕ) → x ≤ i → i < y → f i ≡ 0) → total f x (y - x) ≡ 0
none_between f x y h = total-none f x (y - x) (λ k l. h (x + k) (omega arith) (omega arith))

-- the same from x to y
pub same-between : (f g : ℕ → ℕ) (x y : ℕ) → ((i : ℕ) → x ≤ i → i < y → f i ≡ g i) → total f x (y - x) ≡ total g x (y - x)
same-between f g x y h = total-same f g x x (y - x) (λ k l. h (x + k) (omega arith) (omega arith))

-- the sum of what is `row` from x to y, and 0 elsewhere
pub one_span : (f row : ℕ → ℕ) (x y n : ℕ) → x ≤ y → y ≤ n
    → ((i : ℕ) → i < x → f i ≡ 0)
    → ((i : ℕ) → x ≤ i → i < y → f i ≡ row i)
    → ((i : ℕ) → y ≤ i → i < n → f i ≡ 0)
    → total f 0 n ≡ total row x (y - x)
one_span f row x y n h k below there above =
    let z : n ≡ n - 0 = omega arith in
    let a = ap (λ (m : ℕ). total f 0 m) z ∙ total-by f 0 x n (omega arith) (omega arith) in
    let b = total-by f x y n h k in
    let p = none_between f 0 x (λ i l m. below i m) in
    let q = same-between f row x y there in
    let r = none_between f y n above in
    omega (arith, a, b, p, q, r)

-- the sum of what is `row` from a to x and from y to e, and 0 elsewhere
pub two-spans : (f row : ℕ → ℕ) (a x y e n : ℕ) → a ≤ x → x ≤ y → y ≤ e → e ≤ n
    → ((i : ℕ) → i < a → f i ≡ 0)
    → ((i : ℕ) → a ≤ i → i < x → f i ≡ row i)
    → ((i : ℕ) → x ≤ i → i < y → f i ≡ 0)
    → ((i : ℕ) → y ≤ i → i < e → f i ≡ row i)
    → ((i : ℕ) → e ≤ i → i < n → f i ≡ 0)
    → total f 0 n ≡ total row a (x - a) + total row y (e - y)
two-spans f row a x y e n h k l m below first gap second above =
    let z : n ≡ n - 0 = omega arith in
    let s = ap (λ (m : ℕ). total f 0 m) z ∙ total-by f 0 a n (omega arith) (omega arith) in
    let t = total-by f a x n h (omega arith) in
    let u = total-by f x y n k (omega arith) in
    let v = total-by f y e n l m in
    let p = none_between f 0 a (λ i l m. below i m) in
    let q = same-between f row a x first in
    let r = none_between f x y gap in
    let w = same-between f row y e second in
    let o = none_between f e n above in
    omega (arith, s, t, u, v, p, q, r, w, o)

total_first : (f : ℕ → ℕ) (e n : ℕ) → total f e (suc n) ≡ f e + total f (suc e) n
unfolding total
total_first f e n = refl

-- totals of blocks of 64 add up to the sum over all their rows
pub blocks-whole : (t f : ℕ → ℕ) (k n : ℕ) → ((j : ℕ) → j < n → t (k + j) ≡ total f (64 * (k + j)) 64) → total t k n ≡ total f (64 * k) (64 * n)
blocks-whole t f k zero h = sym (total-start t k) ∙ total-start f (64 * k)
blocks-whole t f k (suc n) h =
    let z : k + 0 ≡ k = omega arith in
    let a : t k ≡ total f (64 * k) 64 = ap t (sym z) ∙ h 0 (omega arith) ∙ ap (λ (e : ℕ). total f (64 * e) 64) z in
    let b = blocks-whole t f (suc k) n (λ j l. next j (h (suc j) (omega arith))) in
    let p : 64 * suc n ≡ 64 + 64 * n = omega arith in
    let q : 64 * k + 64 ≡ 64 * suc k = omega arith in
    let d = ap (λ (m : ℕ). total f (64 * k) m) p ∙ total-more f (64 * k) 64 (64 * n) ∙ ap (λ (e : ℕ). total f (64 * k) 64 + total f e (64 * n)) q in
    let e = total_first t k n in
    omega (arith, a, b, d, e)
  where
    next : (j : ℕ) → t (k + suc j) ≡ total f (64 * (k + suc j)) 64 → t (suc k + j) ≡ total f (64 * (suc k + j)) 64
    next j e = let s : suc k + j ≡ k + suc j = omega arith in ap t s ∙ e ∙ ap (λ (m : ℕ). total f (64 * m) 64) (sym s)

-- a sum of octets
pub total-octets : (f : ℕ → ℕ) → ((i : ℕ) → f i < 256) → (e n : ℕ) → total f e n ≤ 255 * n
total-octets f h e zero = omega (arith, total-start f e)
total-octets f h e (suc n) = omega (arith, total_first f e n, h e, total-octets f h (suc e) n)
