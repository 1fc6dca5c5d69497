-- What the test 'one of a list' means.
use Prim.Native.Nat.{ℕ}
use mathlib.Core.Path.{◌≡◌, refl}
use mathlib.Core.Bool.{Bool, true, false}
use mathlib.Core.List.{List, [], ◌∷◌}
use mathlib.Core.Logic.{◌⊎◌, inl, inr, ⊎_elim}
use borrow.Author.Tests.{eqb-true, eqb-false}
use lib.Dec.{eqb}
use Rattle.octets.specs.Choice.{when◌then◌else◌}
use Rattle.octets.specs.Among.{among, OneOf}
use Rattle.octets.proofs.Choice.{true-false}

one-front : (t x : ℕ) (xs : List ℕ) (b : Bool) → eqb t x ≡ b → (among t xs ≡ true → OneOf t xs) → (when b then true else among t xs) ≡ true → (t ≡ x) ⊎ OneOf t xs
one-front t x xs true p r h = inl (eqb-true t x p)
one-front t x xs false p r h = inr (r h)

pub among_one : (t : ℕ) (l : List ℕ) → among t l ≡ true → OneOf t l
among_one t [] e = true-false {t = false} e refl
among_one t (x ∷ xs) e = one-front t x xs (eqb t x) refl (λ h. among_one t xs h) e

among-front : (t x : ℕ) (xs : List ℕ) (b : Bool) → eqb t x ≡ b → (OneOf t xs → among t xs ≡ true) → (t ≡ x) ⊎ OneOf t xs → (when b then true else among t xs) ≡ true
among-front t x xs true p r o = refl
among-front t x xs false p r o = ⊎_elim (λ e. absurd (eqb-false t x p e)) r o

pub one-among : (t : ℕ) (l : List ℕ) → OneOf t l → among t l ≡ true
one-among t [] o = absurd o
one-among t (x ∷ xs) o = among-front t x xs (eqb t x) refl (λ h. one-among t xs h) o
