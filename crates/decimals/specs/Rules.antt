-- What a person may type, as a statement: 1 to 15 decimal digits, with at most one point between
-- two of them, and `-` before them; or `0x` and 16 hexadecimal digits.
use Rattle.std.specs.Prelude.{Bool, true, false, List, [], ◌∷◌, ◌++◌, ℕ, ◌+◌, ◌-◌, ◌*◌, ◌^◌, ◌≤◌, ◌<◌, ◌≡◌, T, ℤ, Float, length}
use Rattle.std.specs.Float.{nan, inf, fin, binary64}
use Rattle.std.specs.Float.Ieee.{up, down, fits, round, neg, of_bits}
use Rattle.words.specs.Digits.{value_of}

-- each octet is a decimal digit
abbrev pub AllDecimal : List ℕ → Type 0
AllDecimal [] = Unit {0}
AllDecimal (c ∷ cs) = (value_of c ≤ 9) × AllDecimal cs

-- the number that digits go on to, after those that stand for v
unfoldable pub digits_value : ℕ → List ℕ → ℕ
digits_value v [] = v
digits_value v (c ∷ cs) = digits_value (10 * v + value_of c) cs

-- the word is n / d, where d is 10 for each digit after the point
pub data Typed : List ℕ → ℕ → ℕ → Type 0 where
  whole : (w : List ℕ) → AllDecimal w → 0 < length w → length w ≤ 15 → Typed w (digits_value 0 w) 1
  pointed :
      (w p : List ℕ) → AllDecimal w → AllDecimal p → 0 < length w → 0 < length p
      → length w + length p ≤ 15
      → Typed (w ++ (46 ∷ p)) (digits_value 0 (w ++ p)) (10 ^ length p)

-- ---- no f64 is nearer
abbrev pub apart : ℕ → ℕ → ℕ
apart m n = m - n + (n - m)

-- how far ±p / q is from a / c, times q * c
abbrev pub away : Bool → ℕ → ℕ → ℕ → ℕ → ℕ
away false p q a c = apart (p * c) (a * q)
away true p q a c = p * c + a * q

-- x is a number, and no value that an f64 has is nearer to a / c than x is
abbrev pub Nearest : Float → ℕ → ℕ → Type 0
Nearest nan a c = ⊥
Nearest (inf s) a c = ⊥
Nearest (fin s m e) a c =
    (t : Bool) (k : ℕ) (g : ℤ) → T (fits binary64 (fin t k g))
    → away s (m * up e) (down e) a c * down g ≤ away t (k * up g) (down g) a c * down e

-- ---- what a word means
-- each octet is a hexadecimal digit
abbrev pub AllHexadecimal : List ℕ → Type 0
AllHexadecimal [] = Unit {0}
AllHexadecimal (c ∷ cs) = (value_of c ≤ 15) × AllHexadecimal cs

-- the number that hexadecimal digits go on to, after those that stand for v
unfoldable pub hex_value : ℕ → List ℕ → ℕ
hex_value v [] = v
hex_value v (c ∷ cs) = hex_value (16 * v + value_of c) cs

-- a decimal is the f64 nearest to it, one after `-` is that below zero, and `0x` with 16
-- hexadecimal digits is the f64 of those bits
pub data Means : List ℕ → Float → Type 0 where
  decimal : (w : List ℕ) (n d : ℕ) → Typed w n d → Means w (round binary64 false n d)
  below : (w : List ℕ) (n d : ℕ) → Typed w n d → Means (45 ∷ w) (neg (round binary64 false n d))
  pattern : (h : List ℕ) → AllHexadecimal h → length h ≡ 16
      → Means (48 ∷ 120 ∷ h) (of_bits binary64 (hex_value 0 h))
