-- A table of types: each line has the types of one shape row, as the standards list them.
use Rattle.std.specs.Prelude.{ℕ, ◌≤◌, Bool, List, [], ◌∷◌, Option, Some, None}
use Rattle.octets.specs.Choice.{when◌then◌else◌}
use Rattle.octets.specs.Among.{among}
use Rattle.layout.specs.declared.Shape.{Shape}

-- a line of the table: types, fixed, variable, optional
abbrev pub line : List ℕ → ℕ → ℕ → Bool → List ℕ × Shape
line ts f v o = (ts, record { fixed = f; vars = v; opt = o })

-- the line that has the type
abbrev pub look : ℕ → List (List ℕ × Shape) → Option Shape
look t [] = None
look t (l ∷ ls) = when among t l.0 then Some l.1 else look t ls

-- no line has more than k variable parts
abbrev pub AtMost : ℕ → List (List ℕ × Shape) → Type 0
AtMost k [] = Unit {0}
AtMost k (l ∷ ls) = (l.1.vars ≤ k) × AtMost k ls
