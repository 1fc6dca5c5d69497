-- Velocities (Q.1902.3, 6.19.1 and 6.19.2): the exact fraction that a measured value is, the codes,
-- and what codes stand for.
use Rattle.std.specs.Prelude.{true, false, ℕ, zero, suc, ◌+◌, ◌*◌, ◌/◌, min, pos, ltb, Float}
use Rattle.std.specs.Float.{nan, inf, fin, binary64}
use Rattle.std.specs.Float.Ieee.{up, down, of_int}
use Rattle.octets.specs.Choice.{when◌then◌else◌}
use Rattle.octets.specs.Answer.{Answer, accepted, refused, ◌then◌}
use Rattle.velocity.specs.declared.Mark.{Mark}
use Rattle.velocity.specs.declared.Velocity.{Velocity}
use Rattle.velocity.specs.declared.Velocity.TheVariants.{Horizontal as Along, WithVertical as AlongAndUp}
use Rattle.velocity.specs.declared.Codes.{Codes}
use Rattle.velocity.specs.declared.Codes.TheVariants.{Horizontal, WithVertical}
use Rattle.velocity.specs.declared.Course.{Course}

-- an exact fraction of whole numbers, or none
pub data Measured : Type 0 where
  exactly : ℕ → ℕ → Measured
  none : Measured

-- the exact fraction that the bits name: m * 2 ^ e. None for what is no number, infinite or below
-- zero; minus zero is zero
unfoldable pub measured : Float → Measured
measured nan = none
measured (inf s) = none
measured (fin false m e) = exactly (m * up e) (down e)
measured (fin true zero e) = exactly 0 1
measured (fin true (suc m) e) = none

-- a bearing's code: N ≤ b < N+1, below 360
unfoldable pub bearing_of : Measured → Answer ℕ
bearing_of (exactly a c) = when ltb a (360 * c) then accepted (a / c) else refused 26 0
bearing_of none = refused 26 0

-- a speed's code: within half of N, a half going up, and `top` for everything from half below it
unfoldable pub speed_of : ℕ → Measured → Answer ℕ
speed_of top (exactly a c) = accepted (min ((2 * a + c) / (2 * c)) top)
speed_of top none = refused 26 0

-- the codes of a bearing and of a speed
pub record Flat : Type 0 where
  pub bearing : ℕ
  pub speed : ℕ

-- both
abbrev pub flat : ℕ → ℕ → Flat
flat b s = record { bearing = b; speed = s }

-- the codes of what was measured along the ground
unfoldable pub flat_of : Float → Float → Answer Flat
flat_of b s =
    bearing_of (measured b) then λ n. (speed_of 65535 (measured s) then λ k. accepted (flat n k))

-- the codes of a velocity; the mark stands as it was given
unfoldable pub codes_of : Velocity → Answer Codes
codes_of (Along b s) = flat_of b s then λ x. accepted (Horizontal x.bearing x.speed)
codes_of (AlongAndUp b s u mark) =
    flat_of b s
    then λ x. (speed_of 255 (measured u)
    then λ j. accepted (WithVertical x.bearing x.speed j mark))

-- the whole number N itself
abbrev pub whole_of : ℕ → Float
whole_of n = of_int binary64 (pos n)

-- bearing and speed together, each N itself
abbrev pub course_of_lem : ℕ → ℕ → Course
course_of_lem b s = record { bearing = whole_of b; speed = whole_of s }

-- what codes stand for: bearing and speed in one record, and beside it a
-- vertical speed and its mark
pub data Stands : Type 0 where
  alone : Course → Stands
  beside : Course → Float → Mark → Stands

-- what codes stand for, below a bearing of 360
unfoldable pub known_of : Codes → Answer Stands
known_of (Horizontal b s) = when ltb 359 b then refused 26 0 else accepted (alone (course_of_lem b s))
known_of (WithVertical b s u mark) =
    when ltb 359 b then refused 26 0 else accepted (beside (course_of_lem b s) (whole_of u) mark)
