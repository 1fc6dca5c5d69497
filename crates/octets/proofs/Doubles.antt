-- What it is for the two parts of an f64 to fit its format. Assumes nothing.
use mathlib.Core.Path.{sym, ◌∙◌, subst}
use mathlib.Core.Bool.{Bool, ◌&&◌}
use Prim.Native.Nat.{ℕ, zero, suc, ◌+◌, ◌-◌, ◌*◌, ◌%◌, ◌^◌, ◌≤◌, ◌<◌}
use native.Mathlib.Nat.{lt_irrefl, lt_of_not-le, not-le_of_lt, one-mul}
use native.Mathlib.Omega.{arith}
use lib.Dec.{T, eqb, leb, ltb, leb→le, ltb→lt, eqb→eq, lit<}
use lib.IntN.{ℤ, pos, negsuc}
use lib.Pow.{pow-lt}
use lib.Ieee.{fin, binary64, up, down, fits}
use lib.Ieee.Fits.{and_l, and_r}

-- an exponent counted from `base` below
unfoldable pub exponent_from : ℕ → ℤ → ℕ
exponent_from base (pos k) = k + base
exponent_from base (negsuc k) = base - suc k

-- what `fits` says of the two parts
middle : (a b c d : Bool) → T (a && b && c && d) → T b × T c
middle a b c d t = let l = and_l (a && b && c) d t in (and_r a b (and_l (a && b) c l), and_r (a && b) c l)

-- the digits are 53 at the most
pub digits-fit : (s : Bool) (m : ℕ) (e : ℤ) → T (fits binary64 (fin s m e)) → m < 2 ^ 53
unfolding fits
digits-fit s zero e t = lit< tt
digits-fit s (suc m) e t = ltb→lt _ _ (middle (eqb (suc m % 2) 1) (ltb (suc m) (2 ^ 53)) (leb (down e) (2 ^ 1074)) (ltb (suc m * up e) (2 ^ 1024 * down e)) t).0

-- and no exponent is below -1074
pub down_fits : (s : Bool) (m k : ℕ) → T (fits binary64 (fin s m (negsuc k))) → suc k ≤ 1074
unfolding fits
down_fits s m k t = lt_of_not-le (λ q. not-le_of_lt (pow-lt {i = 1074} {j = suc k} (omega arith)) (small s m t))
  where
    small : (s : Bool) (m : ℕ) → T (fits binary64 (fin s m (negsuc k))) → 2 ^ suc k ≤ 2 ^ 1074
    small s zero t = absurd (lt_irrefl 1 (subst (λ (n : ℕ). 1 < n) (sym (one-mul (2 ^ suc k)) ∙ eqb→eq _ _ t) (pow-lt {i = 0} {j = suc k} (omega arith))))
    small s (suc m) t = leb→le _ _ (middle (eqb (suc m % 2) 1) (ltb (suc m) (2 ^ 53)) (leb (2 ^ suc k) (2 ^ 1074)) (ltb (suc m * 1) (2 ^ 1024 * 2 ^ suc k)) t).1
