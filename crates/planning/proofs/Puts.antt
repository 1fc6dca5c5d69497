-- The plan's octets, store by store, as the code writes them.
use Prim.Native.Nat.{ℕ, suc, ◌+◌, ◌-◌, ◌/◌, ◌%◌, ◌≤◌}
use mathlib.Core.Path.{◌≡◌, refl, ◌∙◌, ap}
use mathlib.Core.Bool.{Bool, true, false}
use mathlib.Core.List.{List, [], ◌∷◌, ◌++◌}
use native.Mathlib.Omega.{arith}
use lib.ListN.{length, set}
use lib.Seq.{sets}
use Rattle.writing.proofs.Storing.{sets-append}
use Rattle.isup.specs.Types.{CGB}
use Rattle.asks.specs.Asks.{width}
use Rattle.surveys.specs.Surveys.{next_will_do_lem, can_plan}
use Rattle.planning.specs.Planner.{ones, low_ones_lem, blo, cgb, step_for}
use Rattle.planning.specs.Outcome.{frame}
use Rattle.planning.proofs.Bits.{length-ones}
use Rattle.octets.proofs.Choice.{true-false}
use Rattle.planning.proofs.Stuck.{can-plan-is}
use borrow.Author.Tests.{eq-eqb, ne_eqb, lt-ltb}
use mathlib.Core.Logic.{⊎_elim}

pub four-stores : (b : List ℕ) (at x y z w : ℕ) → set (set (set (set b at x) (at + 1) y) (at + 2) z) (at + 3) w ≡ sets b at (x ∷ y ∷ z ∷ w ∷ [])
four-stores b at x y z w =
    let p : at + 1 ≡ suc at = omega arith in
    let q : at + 2 ≡ suc (suc at) = omega arith in
    let r : at + 3 ≡ suc (suc (suc at)) = omega arith in
    rw (p, q, r)

pub ones-on : (b : List ℕ) (at j k i left less v : ℕ) → k ≡ suc i → v ≡ low_ones_lem left → less ≡ left - 8 → sets b (at + j) (ones k left) ≡ sets (set b (at + j) v) (at + (j + 1)) (ones i less)
unfolding ones
ones-on b at j k i left less v e p q = let s : at + (j + 1) ≡ suc (at + j) = omega arith in rw (e, s, p, q)

pub ones-done : (b : List ℕ) (at k left : ℕ) → k ≡ 0 → sets b at (ones k left) ≡ b
unfolding ones
ones-done b at k left e = rw e

-- one piece after the other
pub then-stored : (a b : List ℕ) (l₀ l₁ l₂ : List ℕ) (at next : ℕ) → l₁ ≡ sets l₀ at a → next ≡ at + length a → l₂ ≡ sets l₁ next b → l₂ ≡ sets l₀ at (a ++ b)
then-stored a b l₀ l₁ l₂ at next p q r = r ∙ ap (λ (l : List ℕ). sets l next b) p ∙ ap (λ (i : ℕ). sets (sets l₀ at a) i b) q ∙ sets-append a l₀ at b

-- a CGB for a row
pub row-stored : (l₀ l₁ l₂ l₃ : List ℕ) (at c kind r n : ℕ) → l₁ ≡ sets l₀ at ((7 + width r) ∷ (c % 256) ∷ (c / 256) ∷ CGB ∷ []) → l₂ ≡ sets l₁ (at + 4) (kind ∷ 1 ∷ (1 + width r) ∷ r ∷ []) → l₃ ≡ sets l₂ (at + 8) (ones (width r) n) → l₃ ≡ sets l₀ at (frame (cgb c kind r (ones (width r) n)))
row-stored l₀ l₁ l₂ l₃ at c kind r n p q s =
    let u = then-stored ((7 + width r) ∷ (c % 256) ∷ (c / 256) ∷ CGB ∷ []) (kind ∷ 1 ∷ (1 + width r) ∷ r ∷ []) l₀ l₁ l₂ at (at + 4) p refl q in
    let v = then-stored ((7 + width r) ∷ (c % 256) ∷ (c / 256) ∷ CGB ∷ kind ∷ 1 ∷ (1 + width r) ∷ r ∷ []) (ones (width r) n) l₀ l₂ l₃ at (at + 8) u refl s in
    let e : 7 + width r ≡ length (cgb c kind r (ones (width r) n)) = omega (arith, length-ones (width r) n) in
    v ∙ ap (λ (x : ℕ). sets l₀ at (x ∷ cgb c kind r (ones (width r) n))) e

-- a CGB of range 1
pub pair-stored : (l₀ l₁ l₂ : List ℕ) (at c s : ℕ) → l₁ ≡ sets l₀ at (8 ∷ (c % 256) ∷ (c / 256) ∷ CGB ∷ []) → l₂ ≡ sets l₁ (at + 4) (1 ∷ 1 ∷ (1 + 1) ∷ 1 ∷ []) → set l₂ (at + 8) s ≡ sets l₀ at (frame (cgb c 1 1 (s ∷ [])))
pair-stored l₀ l₁ l₂ at c s p q =
    let u = then-stored (8 ∷ (c % 256) ∷ (c / 256) ∷ CGB ∷ []) (1 ∷ 1 ∷ (1 + 1) ∷ 1 ∷ []) l₀ l₁ l₂ at (at + 4) p refl q in
    then-stored (8 ∷ (c % 256) ∷ (c / 256) ∷ CGB ∷ 1 ∷ 1 ∷ (1 + 1) ∷ 1 ∷ []) (s ∷ []) l₀ l₂ (set l₂ (at + 8) s) at (at + 8) u refl refl

-- what is not one of the first is past them
pub up : {n k : ℕ} → k ≤ n → (n ≡ k → ⊥) → suc k ≤ n
up h z = omega arith

-- ---- which message it is
module _ (kind : ℕ) (can : ℕ → Bool) (c n : ℕ) where
  pub step_row : (n ≡ 1 → ⊥) → (step_for kind can c n).message ≡ cgb c kind (n - 1) (ones (width (n - 1)) n)
  unfolding step_for
  step_row h = rw (ne_eqb _ _ h)

  pub step-blo : n ≡ 1 → kind ≡ 0 → (step_for kind can c n).message ≡ blo c
  unfolding step_for
  step-blo h k = rw (eq-eqb _ _ h, eq-eqb _ _ k)

  pub step_after : n ≡ 1 → (kind ≡ 0 → ⊥) → next_will_do_lem can c ≡ true → (step_for kind can c n).message ≡ cgb c 1 1 (1 ∷ [])
  unfolding step_for
  step_after h k t = rw (eq-eqb _ _ h, ne_eqb _ _ k, t)

  pub step-before : n ≡ 1 → (kind ≡ 0 → ⊥) → next_will_do_lem can c ≡ false → (step_for kind can c n).message ≡ cgb (c - 1) 1 1 (2 ∷ [])
  unfolding step_for
  step-before h k t = rw (eq-eqb _ _ h, ne_eqb _ _ k, t)

  pub has-before : can_plan kind can c ≡ true → (kind ≡ 0 → ⊥) → next_will_do_lem can c ≡ false → 1 ≤ c
  has-before p k t =
      let q = can-plan-is kind can c p in
      ⊎_elim (λ x. absurd (k x)) (⊎_elim (λ x. absurd (true-false (rw (lt-ltb c 4095 x.0) x.1) t)) (λ x. x.0)) q.1
