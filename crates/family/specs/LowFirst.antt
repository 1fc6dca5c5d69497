-- A code of so many octets, the least significant first.
use Rattle.std.specs.Prelude.{ℕ, zero, suc, ◌+◌, ◌*◌, ◌/◌, ◌%◌, List, [], ◌∷◌}

-- the number that octets stand for
abbrev pub code_in : List ℕ → ℕ
code_in [] = 0
code_in (x ∷ xs) = x + 256 * code_in xs

-- n octets that stand for a number
abbrev pub code_octets : ℕ → ℕ → List ℕ
code_octets zero c = []
code_octets (suc n) c = c % 256 ∷ code_octets n (c / 256)
