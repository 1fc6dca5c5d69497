-- Laws of a sum over numbers one after the other.
use Prim.Native.Nat.{ℕ, zero, suc, ◌+◌, ◌<◌}
use mathlib.Core.Path.{◌≡◌, refl, sym, ap, ◌∙◌}
use native.Mathlib.Omega.{arith}
use Rattle.octets.specs.Sum.{total}

-- the first n, then the others
pub total-more : (f : ℕ → ℕ) (e n k : ℕ) → total f e (n + k) ≡ total f e n + total f (e + n) k
unfolding total
total-more f e zero k =
    let p : e + 0 ≡ e = omega arith in
    let q : 0 + k ≡ k = omega arith in
    let r : 0 + total f e k ≡ total f e k = omega arith in
    rw (p, q) (sym r)
total-more f e (suc n) k =
    let p : e + suc n ≡ suc e + n = omega arith in
    let q : suc n + k ≡ suc (n + k) = omega arith in
    rw (p, q) (omega (arith, total-more f (suc e) n k))

-- from the start
pub total-front : (f : ℕ → ℕ) (n k : ℕ) → total f 0 (n + k) ≡ total f 0 n + total f n k
total-front f n k =
    let z : 0 + n ≡ n = omega arith in
    total-more f 0 n k ∙ ap (λ (e : ℕ). total f 0 n + total f e k) z

-- term by term the same
pub total-same : (f g : ℕ → ℕ) (d e n : ℕ) → ((k : ℕ) → k < n → f (d + k) ≡ g (e + k)) → total f d n ≡ total g e n
unfolding total
total-same f g d e zero h = refl
total-same f g d e (suc n) h =
    let a : f d ≡ g e = ap f (omega arith) ∙ h 0 (omega arith) ∙ ap g (omega arith) in
    let b = total-same f g (suc d) (suc e) n (λ k l. ap f (omega arith) ∙ h (suc k) (omega arith) ∙ ap g (omega arith)) in
    omega (arith, a, b)

-- a sum of zeros
pub total-none : (f : ℕ → ℕ) (e n : ℕ) → ((k : ℕ) → k < n → f (e + k) ≡ 0) → total f e n ≡ 0
unfolding total
total-none f e zero h = refl
total-none f e (suc n) h =
    let a : f e ≡ 0 = ap f (omega arith) ∙ h 0 (omega arith) in
    let b = total-none f (suc e) n (λ k l. ap f (omega arith) ∙ h (suc k) (omega arith)) in
    omega (arith, a, b)
