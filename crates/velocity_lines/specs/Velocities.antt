-- The lines of the requests for velocities: velocity, velocity-back, each in two forms.
use Rattle.std.specs.Prelude.{ℕ, ◌%◌, true, false, List, ◌++◌, length, pos, ◌==◌, nat_eq, slice_index, Float, Option, Some, None}
use Rattle.std.specs.Float.{fin}
use Rattle.std.specs.Float.Ieee.{lt, to_unsigned}
use Rattle.octets.specs.Choice.{when◌then◌else◌}
use Rattle.octets.specs.Answer.{Answer, accepted, refused}
use Rattle.words.specs.Said.{said}
use Rattle.decimals.specs.Decimals.{real_of_lem}
use Rattle.velocity.specs.declared.Mark.{Mark}
use Rattle.velocity.specs.declared.Mark.TheVariants.{Upward, Downward}
use Rattle.velocity.specs.declared.Velocity.TheVariants.{Horizontal as Along, WithVertical as AlongAndUp}
use Rattle.velocity.specs.declared.Codes.{Codes}
use Rattle.velocity.specs.declared.Codes.TheVariants.{Horizontal, WithVertical}
use Rattle.velocity.specs.declared.Course.{Course}
use Rattle.velocity.specs.Velocity.{codes_of, Stands, alone, beside, known_of}
use Rattle.fields.specs.Kinds.{FieldSays}
use Rattle.forms.specs.Rows.{VELOCITY, VELOCITY-LONG, VELOCITY-BACK}
use Rattle.requests.specs.Words.{number_at, octet_at_lem, octets_at}
use Rattle.lines.specs.Lines.{counted, refusal}

-- which mark a word is: up, down, or none
unfoldable pub typed_mark : List ℕ → Option Mark
typed_mark word =
    when length word == 2
    then (when nat_eq (slice_index word 0) 117 then (when nat_eq (slice_index word 1) 112 then Some Upward else None)
    else None)
    else when length word == 4
    then (when nat_eq (slice_index word 0) 100
    then (when nat_eq (slice_index word 1) 111
    then (when nat_eq (slice_index word 2) 119 then (when nat_eq (slice_index word 3) 110 then Some Downward else None)
    else None) else None) else None)
    else None

-- a mark, after what stands before it
abbrev pub mark_word : Mark → List ℕ
mark_word Upward = said " up"
mark_word Downward = said " down"

-- bearing 359 speed 120 vertical 3 up
unfoldable pub codes_line : Codes → List ℕ
codes_line (Horizontal b s) = counted "bearing " b ++ counted " speed " s
codes_line (WithVertical b s u mark) =
    counted "bearing " b ++ counted " speed " s ++ counted " vertical " u ++ mark_word mark

-- codes, or the refusal
unfoldable pub coded_line : Answer Codes → List ℕ
coded_line (accepted c) = codes_line c
coded_line (refused n at) = refusal n

-- the whole number that a value above -1 and below 65536 is, its fraction dropped; 0 for any other
unfoldable pub whole_in : Float → ℕ
whole_in x =
    when lt (fin true 1 (pos 0)) x then (when lt x (fin false 1 (pos 16)) then to_unsigned 64 x else 0)
    else 0

-- bearing and speed, which were read back
unfoldable pub course_line : Course → List ℕ
course_line c = counted "bearing " (whole_in c.bearing) ++ counted " speed " (whole_in c.speed)

-- what codes stand for, in the words of the codes, or the refusal
unfoldable pub known_line : Answer Stands → List ℕ
known_line (accepted (alone c)) = course_line c
known_line (accepted (beside c u mark)) =
    course_line c ++ counted " vertical " (whole_in u) ++ mark_word mark
known_line (refused n at) = refusal n

-- a line that is no request
abbrev pub bad_line : List ℕ
bad_line = said "bad line"

-- the line by a measured value; a word that is none makes the line a bad one
abbrev pub by_value : Option Float → (Float → List ℕ) → List ℕ
by_value (Some x) line = line x
by_value None line = bad_line

-- the line by a mark
abbrev pub by_mark : Option Mark → (Mark → List ℕ) → List ℕ
by_mark (Some mark) line = line mark
by_mark None line = bad_line

-- velocity BEARING SPEED, by its words
unfoldable pub velocity_line : List ℕ → List ℕ → List ℕ
velocity_line bearing speed =
    by_value (real_of_lem bearing) (λ b. by_value (real_of_lem speed) (λ s. coded_line (codes_of (Along b s))))

-- velocity BEARING SPEED VERTICAL MARK
unfoldable pub velocity_long_line : List ℕ → List ℕ → List ℕ → List ℕ → List ℕ
velocity_long_line bearing speed vertical mark =
    by_value (real_of_lem bearing) (λ b. by_value (real_of_lem speed) (λ s. by_value (real_of_lem vertical) (λ u. by_mark (typed_mark mark) (λ m. coded_line (codes_of (AlongAndUp b s u m))))))

-- velocity-back BEARING SPEED
abbrev pub back_line : ℕ → ℕ → List ℕ
back_line b s = known_line (known_of (Horizontal b s))

-- velocity-back BEARING SPEED VERTICAL MARK
unfoldable pub back_long_line : ℕ → ℕ → ℕ → List ℕ → List ℕ
back_long_line b s u mark = by_mark (typed_mark mark) (λ m. known_line (known_of (WithVertical b s u m)))

-- the code of field i, whose number is below 65536
abbrev pub code_at : List FieldSays → ℕ → ℕ
code_at gs i = number_at gs i % 65536

-- the line of a row of the family, by what its fields say; the long form of
-- velocity-back is its last
unfoldable pub velocities_line_lem : ℕ → List FieldSays → List ℕ
velocities_line_lem which gs =
    when which == VELOCITY then velocity_line (octets_at gs 0) (octets_at gs 1)
    else when which == VELOCITY-LONG
    then velocity_long_line (octets_at gs 0) (octets_at gs 1) (octets_at gs 2) (octets_at gs 3)
    else when which == VELOCITY-BACK then back_line (code_at gs 0) (code_at gs 1)
    else back_long_line (code_at gs 0) (code_at gs 1) (octet_at_lem gs 2) (octets_at gs 3)
