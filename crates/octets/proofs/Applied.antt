-- A list changed over a span: one step of it, and what it means.
use mathlib.Core.Path.{◌≡◌, refl, ◌∙◌, ap}
use mathlib.Core.List.{List, [], ◌∷◌}
use mathlib.Core.Logic.{⊎_elim}
use Prim.Native.Nat.{ℕ, zero, suc, ◌+◌, ◌<◌, ◌≤◌}
use native.Mathlib.Nat.{eq-or-lt_of_le}
use native.Mathlib.Omega.{arith}
use lib.ListN.{length, get_or, set, length-set}
use lib.Seq.{get_or-set_same, get_or-set_other, set-get_or}
use Rattle.octets.specs.Applied.{applied}

-- ---- one step of it
pub applied-none : (f : ℕ → ℕ → ℕ) (k n : ℕ) (l : List ℕ) → n ≡ 0 → applied f k n l ≡ l
unfolding applied
applied-none f k n l e = rw e

pub applied-more : (f : ℕ → ℕ → ℕ) (k n k' n' v : ℕ) (l : List ℕ) → n ≡ suc n' → k' ≡ suc k → v ≡ f k (get_or l k 0) → applied f k n l ≡ applied f k' n' (set l k v)
unfolding applied
applied-more f k n k' n' v l e p q = rw (e, p, q)

-- a step that changes nothing, and stores nothing
pub applied-same : (f : ℕ → ℕ → ℕ) (k n k' n' : ℕ) (l : List ℕ) → n ≡ suc n' → k' ≡ suc k → f k (get_or l k 0) ≡ get_or l k 0 → applied f k n l ≡ applied f k' n' l
unfolding applied
applied-same f k n k' n' l e p q = rw (e, p, q, set-get_or)

-- ---- the length stays, an entry of the span is changed, and no other is
pub length-applied : (f : ℕ → ℕ → ℕ) (k n : ℕ) (l : List ℕ) → length (applied f k n l) ≡ length l
unfolding applied
length-applied f k zero l = refl
length-applied f k (suc n) l = length-applied f (suc k) n (set l k (f k (get_or l k 0))) ∙ simp length-set

pub applied-below : (f : ℕ → ℕ → ℕ) (k n : ℕ) (l : List ℕ) (i : ℕ) → i < k → get_or (applied f k n l) i 0 ≡ get_or l i 0
unfolding applied
applied-below f k zero l i h = refl
applied-below f k (suc n) l i h =
    applied-below f (suc k) n _ i (omega arith) ∙ get_or-set_other l k i _ 0 (λ e. omega arith)

pub applied-past : (f : ℕ → ℕ → ℕ) (k n : ℕ) (l : List ℕ) (i : ℕ) → k + n ≤ i → get_or (applied f k n l) i 0 ≡ get_or l i 0
unfolding applied
applied-past f k zero l i h = refl
applied-past f k (suc n) l i h =
    applied-past f (suc k) n _ i (omega arith) ∙ get_or-set_other l k i _ 0 (λ e. omega arith)

pub applied-in : (f : ℕ → ℕ → ℕ) (k n : ℕ) (l : List ℕ) (i : ℕ) → k ≤ i → i < k + n → i < length l → get_or (applied f k n l) i 0 ≡ f i (get_or l i 0)
unfolding applied
applied-in f k zero l i a b h = absurd (omega arith)
applied-in f k (suc n) l i a b h =
    ⊎_elim
    (λ q. applied-below f (suc k) n _ i (omega arith) ∙ rw q (get_or-set_same l i _ 0 h))
    (λ q. applied-in f (suc k) n _ i q (omega arith) (simp length-set h) ∙ rw (get_or-set_other l k i _ 0 (λ e. omega arith)))
    (eq-or-lt_of_le a)

-- two changes that say the same of each entry of the span
pub applied-alike : (f g : ℕ → ℕ → ℕ) (k n : ℕ) (l : List ℕ) → ((i v : ℕ) → k ≤ i → i < k + n → f i v ≡ g i v) → applied f k n l ≡ applied g k n l
unfolding applied
applied-alike f g k zero l h = refl
applied-alike f g k (suc n) l h =
    ap (λ (v : ℕ). applied f (suc k) n (set l k v)) (h k (get_or l k 0) (omega arith) (omega arith))
    ∙ applied-alike f g (suc k) n (set l k (g k (get_or l k 0))) (λ i v p q. h i v (omega arith) (omega arith))

-- a store past the end is none
pub set_beyond : (l : List ℕ) (k v : ℕ) → length l ≤ k → set l k v ≡ l
set_beyond [] k v h = refl
set_beyond (x ∷ xs) zero v h = absurd (omega arith)
set_beyond (x ∷ xs) (suc k) v h = ap (λ r. x ∷ r) (set_beyond xs k v (omega arith))

-- so from the end on there is nothing to change
pub applied-beyond : (f : ℕ → ℕ → ℕ) (k n : ℕ) (l : List ℕ) → length l ≤ k → applied f k n l ≡ l
unfolding applied
applied-beyond f k zero l h = refl
applied-beyond f k (suc n) l h = ap (applied f (suc k) n) (set_beyond l k _ h) ∙ applied-beyond f (suc k) n l (omega arith)
