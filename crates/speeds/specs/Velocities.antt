-- Velocities at the boundary: codes in a lent list of numbers, and values in a lent list of floats.
use Rattle.std.specs.Prelude.{ℕ, ◌*◌, ◌<◌, List, [], ◌∷◌, ◌++◌, ltb, Float, length, drop}
use Rattle.octets.specs.Choice.{when◌then◌else◌}
use Rattle.octets.specs.Answer.{Answer, accepted, refused, ◌then◌}
use Rattle.octets.specs.Filled.{Done, done, room_for}
use Rattle.octets.specs.Faults.{Fault, fault}
use Rattle.velocity.specs.declared.Course.{Course}
use Rattle.velocity.specs.declared.Codes.{Codes}
use Rattle.velocity.specs.declared.Codes.TheVariants.{Horizontal, WithVertical}
use Rattle.velocity.specs.declared.Velocity.{Velocity}
use Rattle.velocity.specs.declared.Velocity.TheVariants.{Horizontal as Along, WithVertical as AlongAndUp}
use Rattle.velocity.specs.Velocity.{codes_of, course_of_lem}
use Rattle.velocity.specs.Faults.{velocity_faults}

-- codes as numbers; the mark stays with the caller
abbrev pub numbers_in : Codes → List ℕ
numbers_in (Horizontal b s) = b ∷ s ∷ []
numbers_in (WithVertical b s u mark) = b ∷ s ∷ u ∷ []

-- codes at the front of the lent numbers, and how many they are; or 13
abbrev pub gives_codes : Codes → List ℕ → Done ℕ
gives_codes c codes = done codes (room_for codes (length (numbers_in c), numbers_in c))

-- coding: so many numbers; 26, then 13 where there is no room for them
unfoldable pub code_gives : Velocity → List ℕ → Done ℕ
code_gives v codes =
    done codes (codes_of v then λ c. room_for codes (length (numbers_in c), numbers_in c))

-- how many codes a velocity has
abbrev pub codes_count : Velocity → ℕ
codes_count (Along b s) = 2
codes_count (AlongAndUp b s u mark) = 3

-- 26, then 13
abbrev pub code_gives_faults : Velocity → List ℕ → List Fault
code_gives_faults v codes = velocity_faults v ++ (fault 13 0 (length codes < codes_count v) ∷ [])

-- a number, and what the lent values hold afterwards
pub record Valued : Type 0 where
  pub value : ℕ
  pub left : List Float

-- the two together
abbrev pub valued : ℕ → List Float → Valued
valued value left = record { value = value; left = left }

-- what two numbers stand for as codes: 26 for a bearing above 359, and for a speed that no code is
abbrev pub course_at : ℕ → ℕ → Answer Course
course_at b s =
    when ltb 359 b then refused 26 0 else when ltb 65535 s then refused 26 0
    else accepted (course_of_lem b s)

-- bearing and speed at the front of the lent values, or 13 where there is no
-- room for both; a refusal keeps them
abbrev pub values_by : List Float → Answer Course → Valued
values_by values (accepted c) =
    when ltb (length values) 2 then valued (65536 * 13) values
    else valued 2 (c.bearing ∷ c.speed ∷ drop 2 values)
values_by values (refused n at) = valued (65536 * n) values

-- reading back
abbrev pub values_gives : ℕ → ℕ → List Float → Valued
values_gives b s values = values_by values (course_at b s)
