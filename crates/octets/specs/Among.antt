-- One of a list of numbers: the test, and what it means.
use Rattle.std.specs.Prelude.{ℕ, ◌≡◌, Bool, true, false, List, [], ◌∷◌, ◌⊎◌, eqb}
use Rattle.octets.specs.Choice.{when◌then◌else◌}

-- whether a number is one of the list
abbrev pub among : ℕ → List ℕ → Bool
among t [] = false
among t (x ∷ xs) = when eqb t x then true else among t xs

-- the number is one of the list
abbrev pub OneOf : ℕ → List ℕ → Type 0
OneOf t [] = ⊥
OneOf t (x ∷ xs) = (t ≡ x) ⊎ OneOf t xs
