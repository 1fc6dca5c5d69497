-- How many octets of a range are in spans that share none.
use Prim.Native.Nat.{ℕ, zero, suc, ◌+◌, ◌-◌, ◌≤◌, ◌<◌}
use mathlib.Core.Path.{◌≡◌, refl, sym, ◌∙◌, ap}
use mathlib.Core.Logic.{◌⊎◌, inl, inr, ⊎_elim}
use native.Mathlib.Omega.{arith}
use native.Mathlib.Decide.{dec_lt}
use Rattle.octets.specs.Sum.{total}

-- 1 where i is from f up to and not including t
chosen : {i f t : ℕ} → Dec (i < f) → Dec (i < t) → ℕ
chosen (yes a) b = 0
chosen (no a) (yes b) = 1
chosen (no a) (no b) = 0

pub inside : ℕ → ℕ → ℕ → ℕ
inside f t i = chosen (dec_lt i f) (dec_lt i t)

pub inside-yes : (f t i : ℕ) → f ≤ i → i < t → inside f t i ≡ 1
unfolding inside chosen
inside-yes f t i a b = go (dec_lt i f) (dec_lt i t)
  where
    go : (x : Dec (i < f)) (y : Dec (i < t)) → chosen x y ≡ 1
    go (yes x) y = absurd (omega arith)
    go (no x) (yes y) = refl
    go (no x) (no y) = absurd (y b)

pub inside-no : (f t i : ℕ) → (i < f) ⊎ (t ≤ i) → inside f t i ≡ 0
unfolding inside chosen
inside-no f t i h = go (dec_lt i f) (dec_lt i t)
  where
    go : (x : Dec (i < f)) (y : Dec (i < t)) → chosen x y ≡ 0
    go (yes x) y = refl
    go (no x) (yes y) = absurd (⊎_elim (λ a. x a) (λ b. omega arith) h)
    go (no x) (no y) = refl

pub inside-or : (f t i : ℕ) → ((f ≤ i) × (i < t) × (inside f t i ≡ 1)) ⊎ (inside f t i ≡ 0)
unfolding inside chosen
inside-or f t i = go (dec_lt i f) (dec_lt i t)
  where
    go : (x : Dec (i < f)) (y : Dec (i < t)) → ((f ≤ i) × (i < t) × (chosen x y ≡ 1)) ⊎ (chosen x y ≡ 0)
    go (yes x) y = inr refl
    go (no x) (yes y) = inl (omega arith, y, refl)
    go (no x) (no y) = inr refl

pub total-past : (f t e n : ℕ) → t ≤ e → total (inside f t) e n ≡ 0
unfolding total
total-past f t e zero h = refl
total-past f t e (suc n) h = omega (arith, inside-no f t e (inr h), total-past f t (suc e) n (omega arith))

total-from : (f t e n : ℕ) → f ≤ e → e ≤ t → t ≤ e + n → total (inside f t) e n ≡ t - e
unfolding total
total-from f t e zero a b c = omega arith
total-from f t e (suc n) a b c = go (λ h. total-from f t (suc e) n (omega arith) h (omega arith)) (dec_lt e t)
  where
    go : (e < t → total (inside f t) (suc e) n ≡ t - suc e) → Dec (e < t) → inside f t e + total (inside f t) (suc e) n ≡ t - e
    go ih (yes h) = omega (arith, inside-yes f t e a h, ih h)
    go ih (no h) = omega (arith, inside-no f t e (inr (omega arith)), total-past f t (suc e) n (omega arith))

pub total-span : (f t e n : ℕ) → e ≤ f → f ≤ t → t ≤ e + n → total (inside f t) e n ≡ t - f
unfolding total
total-span f t e zero a b c = omega arith
total-span f t e (suc n) a b c = go (λ h. total-span f t (suc e) n h b (omega arith)) (dec_lt e f)
  where
    go : (e < f → total (inside f t) (suc e) n ≡ t - f) → Dec (e < f) → inside f t e + total (inside f t) (suc e) n ≡ t - f
    go ih (yes h) = omega (arith, inside-no f t e (inl h), ih h)
    go ih (no h) = let q : f ≡ e = omega arith in total-from f t e (suc n) (omega arith) (omega arith) c ∙ ap (λ k. t - k) (sym q)

pub total-add : (f g : ℕ → ℕ) (e n : ℕ) → total (λ i. f i + g i) e n ≡ total f e n + total g e n
unfolding total
total-add f g e zero = refl
total-add f g e (suc n) = omega (arith, total-add f g (suc e) n)

pub total-most : (f : ℕ → ℕ) → ((i : ℕ) → f i ≤ 1) → (e n : ℕ) → total f e n ≤ n
unfolding total
total-most f h e zero = omega arith
total-most f h e (suc n) = omega (arith, h e, total-most f h (suc e) n)
