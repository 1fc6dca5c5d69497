-- A lent buffer that is filled from the left. What has no room is left out,
-- and nothing past the place changes.
use Rattle.std.specs.Prelude.{ℕ, ◌+◌, List, [], ◌∷◌, ltb, length, set}
use Rattle.octets.specs.Choice.{when◌then◌else◌}

-- a buffer, and the place at which the next octet goes
pub record Sheet : Type 0 where
  pub octets : List ℕ
  pub at : ℕ

-- both
abbrev pub sheet : List ℕ → ℕ → Sheet
sheet octets at = record { octets = octets; at = at }

-- one octet more, where there is room for it
unfoldable pub put : Sheet → ℕ → Sheet
put s c =
    when ltb s.at (length s.octets) then sheet (set s.octets s.at c) (s.at + 1) else s

-- octets one after the other
unfoldable pub pour : Sheet → List ℕ → Sheet
pour s [] = s
pour s (c ∷ cs) = pour (put s c) cs
