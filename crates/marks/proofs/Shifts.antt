-- A number shifted left, and the remainder by it.
use Prim.Native.Nat.{ℕ, zero, suc, ◌+◌, ◌*◌, ◌%◌, ◌^◌, ◌<◌}
use mathlib.Core.Path.{◌≡◌, refl}
use native.Mathlib.Omega.{arith}
use native.Mathlib.Nat.{mod-le}

-- the spare bits of an octet come from here on
pub shifted : (k : ℕ) → k < 8 → 2 * 2 ^ k % 65536 ≡ 2 ^ (k + 1)
shifted zero h = refl
shifted (suc zero) h = refl
shifted (suc (suc zero)) h = refl
shifted (suc (suc (suc zero))) h = refl
shifted (suc (suc (suc (suc zero)))) h = refl
shifted (suc (suc (suc (suc (suc zero))))) h = refl
shifted (suc (suc (suc (suc (suc (suc zero)))))) h = refl
shifted (suc (suc (suc (suc (suc (suc (suc zero))))))) h = refl
shifted (suc (suc (suc (suc (suc (suc (suc (suc k)))))))) h = absurd (omega arith)

pub shift-positive : (k : ℕ) → k < 8 → 0 < 2 * 2 ^ k % 65536
shift-positive zero h = omega arith
shift-positive (suc zero) h = omega arith
shift-positive (suc (suc zero)) h = omega arith
shift-positive (suc (suc (suc zero))) h = omega arith
shift-positive (suc (suc (suc (suc zero)))) h = omega arith
shift-positive (suc (suc (suc (suc (suc zero))))) h = omega arith
shift-positive (suc (suc (suc (suc (suc (suc zero)))))) h = omega arith
shift-positive (suc (suc (suc (suc (suc (suc (suc zero))))))) h = omega arith
shift-positive (suc (suc (suc (suc (suc (suc (suc (suc k)))))))) h = absurd (omega arith)

-- a remainder of an octet is an octet
pub rest-small : (x y : ℕ) → x < 256 → x % y < 256
rest-small x y h = omega (arith, mod-le x y)
