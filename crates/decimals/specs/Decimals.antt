-- The f64 that a typed word stands for.
use Rattle.std.specs.Prelude.{Float, Option, Some, None, false, List, [], ◌∷◌, ℕ, ◌+◌, ◌*◌, ◌≤◌, ◌<◌, ltb, eqb, length, get_or, drop}
use Rattle.std.specs.Float.{binary64}
use Rattle.std.specs.Float.Ieee.{round, neg, of_bits}
use Rattle.octets.specs.Choice.{when◌then◌else◌}
use Rattle.words.specs.Digits.{value_of}

-- digits after the point: after n digits in all that stand for v, over d
unfoldable pub part_from_lem : ℕ → ℕ → ℕ → List ℕ → Option (ℕ × ℕ)
part_from_lem v n d [] = Some (v, d)
part_from_lem v n d (c ∷ cs) =
    when ltb 9 (value_of c) then None
    else when ltb 14 n then None
    else part_from_lem (10 * v + value_of c) (n + 1) (10 * d) cs

-- digits up to a point or the end, after n digits that stand for v: at least
-- one before a point, and one after it
unfoldable pub whole_from : ℕ → ℕ → List ℕ → Option (ℕ × ℕ)
whole_from v n [] = when eqb n 0 then None else Some (v, 1)
whole_from v n (c ∷ cs) =
    when eqb c 46 then (when eqb n 0 then None else when eqb (length cs) 0 then None else part_from_lem v n 1 cs)
    else when ltb 9 (value_of c) then None
    else when ltb 14 n then None
    else whole_from (10 * v + value_of c) (n + 1) cs

-- at most 15 digits, so an f64 holds the number and the power of ten
abbrev pub Sized : Option (ℕ × ℕ) → Type 0
Sized (Some (v, d)) = (v ≤ 1000000000000000) × (0 < d) × (d ≤ 1000000000000000)
Sized None = Unit {0}

-- the f64 nearest to a fraction
abbrev pub nearest_to : Option (ℕ × ℕ) → Option Float
nearest_to (Some (v, d)) = Some (round binary64 false v d)
nearest_to None = None

-- the f64 nearest to what was typed
unfoldable pub typed_of : List ℕ → Option Float
typed_of word = nearest_to (whole_from 0 0 word)

-- hexadecimal digits, after those that stand for v
unfoldable pub hex_from : ℕ → List ℕ → Option ℕ
hex_from v [] = Some v
hex_from v (c ∷ cs) = when ltb 15 (value_of c) then None else hex_from (16 * v + value_of c) cs

-- the f64 of those bits
abbrev pub pattern_of : Option ℕ → Option Float
pattern_of (Some n) = Some (of_bits binary64 n)
pattern_of None = None

-- the same below zero
abbrev pub below_zero : Option Float → Option Float
below_zero (Some x) = Some (neg x)
below_zero None = None

-- `-` and a decimal; `0x` and 16 hexadecimal digits; or a decimal
unfoldable pub real_of_lem : List ℕ → Option Float
real_of_lem word =
    when eqb (length word) 0 then None
    else when eqb (get_or word 0 0) 45 then below_zero (typed_of (drop 1 word))
    else when eqb (length word) 18
    then (when eqb (get_or word 1 0) 120
    then (when eqb (get_or word 0 0) 48 then pattern_of (hex_from 0 (drop 2 word)) else typed_of word)
    else typed_of word)
    else typed_of word
