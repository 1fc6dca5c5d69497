-- Laws of signals read from halves of octets.
use Prim.Native.Nat.{ℕ, zero, suc, ◌+◌, ◌*◌, ◌/◌, ◌%◌, ◌<◌}
use mathlib.Core.Path.{◌≡◌, refl, ◌∙◌}
use mathlib.Core.List.{List, [], ◌∷◌}
use native.Mathlib.Omega.{arith}
use lib.ListN.{length, get_or, drop, length-drop}
use lib.Seq.{length-take-le, get_or-take, get_or-drop}
use Rattle.number.specs.Halves.{halves}
use Rattle.number.specs.Contents.{count_in, signals_in}

-- two halves to an octet
pub length-halves : (octets : List ℕ) → length (halves octets) ≡ 2 * length octets
unfolding halves
length-halves [] = refl
length-halves (octet ∷ octets) = let e = length-halves octets in omega arith

-- half 2 j is the low half of octet j
pub halves-low : (octets : List ℕ) (j : ℕ) → get_or (halves octets) (2 * j) 0 ≡ get_or octets j 0 % 16
unfolding halves
halves-low [] j = refl
halves-low (octet ∷ octets) zero = refl
halves-low (octet ∷ octets) (suc j) =
    let e : 2 * suc j ≡ suc (suc (2 * j)) = omega arith in rw e (halves-low octets j)

-- half 2 j + 1 is the high half of octet j
pub halves-high : (octets : List ℕ) (j : ℕ) → get_or (halves octets) (2 * j + 1) 0 ≡ get_or octets j 0 / 16
unfolding halves
halves-high [] j = refl
halves-high (octet ∷ octets) zero = refl
halves-high (octet ∷ octets) (suc j) =
    let e : 2 * suc j + 1 ≡ suc (suc (2 * j + 1)) = omega arith in rw e (halves-high octets j)

-- as many signals as are counted
pub length-signals : (contents : List ℕ) → length (signals_in contents) ≡ count_in contents
unfolding signals_in
length-signals contents =
    length-take-le _ _ (omega (arith, length-halves (drop 2 contents), length-drop 2 contents))

-- a signal is that half
signal-half : (contents : List ℕ) (k : ℕ) → k < count_in contents → get_or (signals_in contents) k 0 ≡ get_or (halves (drop 2 contents)) k 0
unfolding signals_in
signal-half contents k h = get_or-take _ _ k 0 h

-- signal 2 j is the low half of octet j + 2
pub signal-low : (contents : List ℕ) (j : ℕ) → 2 * j < count_in contents → get_or (signals_in contents) (2 * j) 0 ≡ get_or contents (j + 2) 0 % 16
signal-low contents j h =
    let e : 2 + j ≡ j + 2 = omega arith in
    signal-half contents (2 * j) h ∙ halves-low (drop 2 contents) j ∙ rw (get_or-drop, e)

-- signal 2 j + 1 is the high half of octet j + 2
pub signal-high : (contents : List ℕ) (j : ℕ) → 2 * j + 1 < count_in contents → get_or (signals_in contents) (2 * j + 1) 0 ≡ get_or contents (j + 2) 0 / 16
signal-high contents j h =
    let e : 2 + j ≡ j + 2 = omega arith in
    signal-half contents (2 * j + 1) h ∙ halves-high (drop 2 contents) j ∙ rw (get_or-drop, e)
