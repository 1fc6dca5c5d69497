-- Faults in the order of checking. A refusal is the first fault that is
-- present. An answer is accepted if none is.
use Rattle.std.specs.Prelude.{ℕ, ◌≡◌, List, [], ◌∷◌, ◌⊎◌, ◌↔◌}
use Rattle.octets.specs.Answer.{Answer, accepted, refused}

-- a fault: the number that is given back for it, and what it is for the
-- fault to be there, at an octet
pub record Fault : Type 1 where
  pub number : ℕ
  pub there : ℕ → Type 0

-- the fault is not there, at any octet
abbrev pub Absent : Fault → Type 0
Absent f = (at : ℕ) → f.there at → ⊥

-- number n, about octet `at`, is the first fault of the list that is there
abbrev pub First : List Fault → ℕ → ℕ → Type 0
First [] n at = ⊥
First (f ∷ fs) n at = ((n ≡ f.number) × f.there at) ⊎ (Absent f × First fs n at)

-- none of them is there
abbrev pub None : List Fault → Type 0
None [] = Unit {0}
None (f ∷ fs) = Absent f × None fs

-- R2. the answer refuses with the first fault in the list's order, and
-- accepts exactly where there is none
pub record Judges {A : Type 0} (x : Answer A) (fs : List Fault) : Type 0 where
  pub refuses : (n at : ℕ) → (x ≡ refused n at) ↔ First fs n at
  pub accepts : ((a : A) × (x ≡ accepted a)) ↔ None fs

-- the fault with that number, about octet q, where P says what is wrong
abbrev pub fault : ℕ → ℕ → Type 0 → Fault
fault n q P = record { number = n; there = λ at. (at ≡ q) × P }
