-- The list of f 0, f 1 and so on, and what stands in it. A table of the code that is this list by
-- computation has the rule f at each place, and no proof writes the table again.
use Prim.Native.Nat.{ℕ, zero, suc, ◌+◌, ◌≤◌, ◌<◌}
use mathlib.Core.Path.{◌≡◌, refl, ◌∙◌, ap}
use mathlib.Core.List.{List, [], ◌∷◌}
use native.Mathlib.Omega.{arith}
use native.Mathlib.Nat.{add-zero, zero-add, add-suc, suc-add, le_of_suc-le-suc, not-suc-le-zero}
use lib.ListN.{length, set}
use lib.Seq.{sets}
use Rattle.octets.specs.Octet.{octet}
use Rattle.octets.specs.Tabulate.{tabulate}

-- at place k stands the value of i+k
pub tabulated-from : (f : ℕ → ℕ) (n i k : ℕ) → k < n → octet (tabulate f i n) k ≡ f (i + k)
tabulated-from f zero i k h = absurd (not-suc-le-zero h)
tabulated-from f (suc n) i zero h = rw add-zero
tabulated-from f (suc n) i (suc k) h = tabulated-from f n (suc i) k (le_of_suc-le-suc h) ∙ rw (suc-add, ← add-suc)

-- at each place stands the value there
pub tabulated : (f : ℕ → ℕ) (n k : ℕ) → k < n → octet (tabulate f 0 n) k ≡ f k
tabulated f n k h = tabulated-from f n 0 k h ∙ rw zero-add

pub length-tabulate : (f : ℕ → ℕ) (i n : ℕ) → length (tabulate f i n) ≡ n
length-tabulate f i zero = refl
length-tabulate f i (suc n) = ap suc (length-tabulate f (suc i) n)

-- rules that agree make the same list
pub tabulate-alike : (f g : ℕ → ℕ) (i n : ℕ) → ((k : ℕ) → i ≤ k → k < i + n → f k ≡ g k) → tabulate f i n ≡ tabulate g i n
tabulate-alike f g i zero h = refl
tabulate-alike f g i (suc n) h =
    let a = h i (omega arith) (omega arith) in
    let b = tabulate-alike f g (suc i) n (λ k p q. h k (omega arith) (omega arith)) in
    λ j. a j ∷ b j

-- ---- stored one by one
-- none is left
pub tabulate-done : (f : ℕ → ℕ) (i n : ℕ) → n ≡ 0 → tabulate f i n ≡ []
tabulate-done f i n e = rw e

-- one is stored, and the rest follows
pub tabulate-more : (f : ℕ → ℕ) (b : List ℕ) (at i n n' v : ℕ) → n ≡ suc n' → v ≡ f i → sets b (at + i) (tabulate f i n) ≡ sets (set b (at + i) v) (at + (i + 1)) (tabulate f (i + 1) n')
tabulate-more f b at i n n' v e q =
    let p : at + (i + 1) ≡ suc (at + i) = omega arith in
    let r : i + 1 ≡ suc i = omega arith in
    rw (e, p, r, q)
