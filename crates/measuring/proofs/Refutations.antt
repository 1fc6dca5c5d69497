-- Wrong programs, each refuted on one call: what it answers is not what the definition says.
use Prim.Native.Nat.{ℕ}
use mathlib.Core.Path.{◌≡◌, refl}
use mathlib.Core.Bool.{Bool, true, false}
use mathlib.Core.List.{[], ◌∷◌}
use Rattle.octets.specs.Answer.{accepted, refused}
use Rattle.layout.specs.declared.Shape.{Shape}
use Rattle.measuring.specs.declared.Lengths.{Lengths}
use Rattle.measuring.specs.Measure.{unfit_of, too_long_lem, too_far_lem, unheld, measure_of}

-- a shape with no fixed octets
abbrev shape : ℕ → Bool → Shape
shape v o = record { fixed = 0; vars = v; opt = o }

-- four variable parts and no contents: a test that lets four in says that this fits
pub four-unfit : unfit_of (shape 4 false) [] [] [] [] [] ≡ true
unfolding unfit_of
four-unfit = refl

-- contents for a third part of a type that has two: a test that looks at the
-- second once more says that this fits
pub third-unfit : unfit_of (shape 2 false) [] [] [] (7 ∷ []) [] ≡ true
unfolding unfit_of
third-unfit = refl

-- a run of one octet for a type with no optional part
pub short-run-unfit : unfit_of (shape 0 false) [] [] [] [] (7 ∷ []) ≡ true
unfolding unfit_of
short-run-unfit = refl

-- lengths of a first content and a run, with no header
abbrev only : ℕ → ℕ → Lengths
only a r = record { head = 0; first = a; second = 0; third = 0; run = r }

-- the second pointer would be 256
pub pointer-256 : measure_of (shape 2 false) 1000 (only 254 0) ≡ refused 12 0
unfolding too_long_lem too_far_lem unheld measure_of
pointer-256 = refl

-- the type, the optional pointer, a run of three octets and its closing 0
pub closing-counted : measure_of (shape 0 true) 1000 (only 0 3) ≡ accepted (record { pointers = record { first = 1; second = 1; third = 1; last = 1 }; size = 6 })
unfolding too_long_lem too_far_lem unheld measure_of
closing-counted = refl
