-- Numbers and octets as they are shown.
use Rattle.std.specs.Prelude.{ℕ, zero, suc, ◌+◌, ◌/◌, ◌%◌, List, [], ◌∷◌, ◌++◌, ltb, eqb, length}
use Rattle.octets.specs.Choice.{when◌then◌else◌}

-- a digit below 16: 0 to 9, then a to f
unfoldable pub digit_of : ℕ → ℕ
digit_of n = when ltb n 10 then 48 + n else 87 + n

-- the last k decimal digits of a number, with no zeros before it
unfoldable pub decimal_in : ℕ → ℕ → List ℕ
decimal_in zero n = []
decimal_in (suc k) n = (when ltb 9 n then decimal_in k (n / 10) else []) ++ ((48 + n % 10) ∷ [])

-- a number in decimal digits, the last ten if it has more: every number of 32 bits is shown whole
abbrev pub decimal_of : ℕ → List ℕ
decimal_of n = decimal_in 10 n

-- each octet in two hexadecimal digits
unfoldable pub hex_pairs : List ℕ → List ℕ
hex_pairs [] = []
hex_pairs (x ∷ xs) = digit_of (x / 16) ∷ digit_of (x % 16) ∷ hex_pairs xs

-- octets in hexadecimal digits, `-` for none
unfoldable pub hex_of : List ℕ → List ℕ
hex_of octets = when eqb (length octets) 0 then 45 ∷ [] else hex_pairs octets
