-- Laws of an answer.
use Prim.Native.Nat.{ℕ}
use mathlib.Core.Path.{◌≡◌, refl, sym, ◌∙◌, ap}
use mathlib.Core.Bool.{Bool, true, false}
use native.Mathlib.Omega.{arith}
use Rattle.octets.specs.Choice.{when◌then◌else◌}
use Rattle.octets.specs.Answer.{Answer, accepted, refused, ◌then◌}

-- what is accepted is not refused
pub refused-accepted : {A : Type 0} {n at : ℕ} {a : A} → refused n at ≡ accepted a → ⊥
refused-accepted e = let z : ◌≡◌ {A = ℕ} 0 1 = cc in omega arith

pub accepted-same : {A : Type 0} {a b : A} → accepted a ≡ accepted b → a ≡ b
accepted-same e = cc

pub refused-same : {A : Type 0} {n n' at at' : ℕ} → ◌≡◌ {A = Answer A} (refused n at) (refused n' at') → (n ≡ n') × (at ≡ at')
refused-same e = (cc, cc)

-- a refusal says the same of any values
pub refused_as : {A B : Type 0} {n n' at at' : ℕ} → ◌≡◌ {A = Answer A} (refused n at) (refused n' at') → ◌≡◌ {A = Answer B} (refused n at) (refused n' at')
refused_as e = let s = refused-same e in λ i. refused (s.0 i) (s.1 i)

-- accepted at the end, so accepted on the way
pub then-accepted : {A B : Type 0} (x : Answer A) (f : A → Answer B) {b : B} → (x then f) ≡ accepted b → (a : A) × (x ≡ accepted a) × (f a ≡ accepted b)
then-accepted (accepted a) f h = (a, refl, h)
then-accepted (refused n at) f h = absurd (refused-accepted h)

-- any two answers that an equation allows are equal
pub one_answer : {A : Type 0} {a r s : A} → r ≡ a → s ≡ a → r ≡ s
one_answer p q = p ∙ sym q

-- accepted past a test for a refusal
pub past-test : {A : Type 0} (n at : ℕ) (t : Bool) {y : Answer A} {a : A} → (when t then refused n at else y) ≡ accepted a → (t ≡ false) × (y ≡ accepted a)
past-test n at true h = absurd (refused-accepted h)
past-test n at false h = (refl, h)

pub test-past : {A : Type 0} (n at : ℕ) {t : Bool} {y : Answer A} {a : A} → t ≡ false → y ≡ accepted a → (when t then refused n at else y) ≡ accepted a
test-past n at e h = rw e h

-- the same on the way, and the same from there on
pub then_same : {A B : Type 0} (x : Answer A) {y : Answer A} {f g : A → Answer B} → x ≡ y → ((a : A) → x ≡ accepted a → f a ≡ g a) → (x then f) ≡ (y then g)
then_same (accepted a) {g = g} e h = h a refl ∙ ap (λ z. z then g) e
then_same (refused n at) {g = g} e h = ap (λ z. z then g) e
