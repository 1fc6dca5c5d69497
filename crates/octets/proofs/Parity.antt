-- Even numbers and odd numbers.
use Prim.Native.Nat.{ℕ, zero, suc, ◌+◌, ◌*◌}
use mathlib.Core.Path.{◌≡◌, subst}
use native.Mathlib.Omega.{arith}

-- what holds of each 2 j and of each 2 j + 1 holds of each number
pub by-halves : (P : ℕ → Type 0) → ((j : ℕ) → P (2 * j)) → ((j : ℕ) → P (2 * j + 1)) → (k : ℕ) → P k
by-halves P even odd zero = even 0
by-halves P even odd (suc zero) = odd 0
by-halves P even odd (suc (suc k)) =
    by-halves (λ n. P (suc (suc n)))
    (λ j. subst P (let e : 2 * suc j ≡ suc (suc (2 * j)) = omega arith in e) (even (suc j)))
    (λ j. subst P (let e : 2 * suc j + 1 ≡ suc (suc (2 * j + 1)) = omega arith in e) (odd (suc j)))
    k
