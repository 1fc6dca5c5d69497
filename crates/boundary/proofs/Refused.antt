-- A refusal in the terms of the number that C sees: told from what is accepted by its size, with
-- the refusal's own number, and all that was lent kept.
use Prim.Native.Nat.{ℕ, ◌+◌, ◌*◌, ◌/◌, ◌%◌, ◌≤◌, ◌<◌}
use mathlib.Core.Path.{◌≡◌, refl, sym, ◌∙◌, ap}
use mathlib.Core.List.{List}
use native.Mathlib.Omega.{arith}
use Rattle.octets.specs.Answer.{Answer, accepted, refused}
use Rattle.octets.specs.Filled.{Done}
use Rattle.telling.specs.Telling.{packed}
use Rattle.boundary.specs.Boundary.{Given, given, given_by}
use Rattle.boundary.specs.Refuses.{Refuses}

-- an answer whose values are below the unit, and whose refusals come times it,
-- from 1 on, with an octet below it
module _ {A : Type 0} (unit : ℕ) (up : (n : ℕ) → 1 ≤ n → unit ≤ unit * n) (halves : (n at : ℕ) → at < unit → ((unit * n + at) / unit ≡ n) × ((unit * n + at) % unit ≡ at)) (under : (k : ℕ) → k < unit → k / unit ≡ 0)
    (r : ℕ) (answer : Answer A) (lent left : List ℕ)
    (low : (a : A) → answer ≡ accepted a → r < unit) (high : (n at : ℕ) → answer ≡ refused n at → (r ≡ unit * n + at) × (1 ≤ n) × (at < unit)) (kept : (n at : ℕ) → answer ≡ refused n at → left ≡ lent) where
  whether-to : (x : Answer A) → answer ≡ x → unit ≤ r → (n at : ℕ) × (answer ≡ refused n at)
  whether-to (accepted a) e h = absurd (omega (arith, low a e))
  whether-to (refused n at) e h = (n, at, e)

  -- the halves of a refusal's number
  halved : (n at : ℕ) → answer ≡ refused n at → (r / unit ≡ n) × (r % unit ≡ at)
  halved n at e = let h = high n at e in let p = halves n at h.2 in (ap (λ (k : ℕ). k / unit) h.0 ∙ p.0, ap (λ (k : ℕ). k % unit) h.0 ∙ p.1)

  which-to : (x : Answer A) → answer ≡ x → (n at : ℕ) → 1 ≤ n → (r / unit ≡ n) × (r % unit ≡ at) → answer ≡ refused n at
  which-to (accepted a) e n at p h = absurd (omega (arith, h.0, under r (low a e)))
  which-to (refused k q) e n at p h = let z = halved k q e in let u = sym z.0 ∙ h.0 in let v = sym z.1 ∙ h.1 in e ∙ (λ i. refused (u i) (v i))

  pub refusing : Refuses unit r answer lent left
  refusing = record {
    whether = (whether-to answer refl, λ x. let h = high x.0 x.1 x.2 in omega (arith, h.0, up x.0 h.1));
    which = λ n at p. (which-to answer refl n at p, halved n at);
    keeps = λ h. (let x = whether-to answer refl h in kept x.0 x.1 x.2);
  }

-- of the functions that answer by 32 bits
module _ (d : Done ℕ) (r : ℕ) (lent left : List ℕ) (small : (n : ℕ) → d.answer ≡ accepted n → n ≤ 65535) (from : (n at : ℕ) → d.answer ≡ refused n at → 1 ≤ n) (place : (n at : ℕ) → d.answer ≡ refused n at → at ≤ 65535) (kept : (n at : ℕ) → d.answer ≡ refused n at → d.left ≡ lent) (e : given r left ≡ given_by d) where
  value : r ≡ packed d.answer
  value = ap (λ (g : Given). g.value) e

  pub by-32-wide : Refuses 65536 r d.answer lent left
  by-32-wide =
      refusing 65536 (λ n h. omega arith) (λ n at h. (omega arith, omega arith)) (λ k h. omega arith) r d.answer lent left
      (λ a q. let v : r ≡ a = value ∙ ap packed q in omega (arith, small a q))
      (λ n at q. (value ∙ ap packed q, from n at q, omega (arith, place n at q)))
      (λ n at q. ap (λ (g : Given). g.left) e ∙ kept n at q)
