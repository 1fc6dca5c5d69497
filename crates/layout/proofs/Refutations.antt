-- Wrong programs, each refuted on one call: what it answers is not what the definition says.
use Rattle.std.specs.Prelude.{Some}
use mathlib.Core.Path.{◌≡◌, refl}
use mathlib.Core.Bool.{true, false}
use mathlib.Core.List.{[], ◌∷◌}
use Rattle.octets.specs.Answer.{refused}
use Rattle.runs.specs.Run.{step_at_lem, stops, stop_from}
use Rattle.layout.specs.declared.Shape.{Shape}
use Rattle.layout.specs.Container.{run_from, variable_at_lem, optional_at_lem, variable_slot_lem, optional_slot_lem, container_of, parts_of}
use Rattle.parts.specs.Overlap.{shares_of, judged, held}
use Rattle.layout.specs.Packed.{packed_of, unpacked_of}

-- a row of four variable parts: a reader that looks at three pointers takes
-- this message, whose fourth pointer is 0
abbrev pub four : Shape
four = record { fixed = 0; vars = 4; opt = false }

pub four-unread : parts_of (1 ∷ 4 ∷ 4 ∷ 4 ∷ 0 ∷ 0 ∷ 0 ∷ 0 ∷ []) 0 268 (Some four) ≡ refused 3 0
unfolding step_at_lem stops stop_from run_from variable_at_lem optional_at_lem variable_slot_lem optional_slot_lem shares_of judged held container_of parts_of
four-unread = refl

-- nor can it be packed: unpacked, it is the row of one fixed octet
pub four-lost : unpacked_of (packed_of (Some four)) ≡ Some (record { fixed = 1; vars = 0; opt = false })
unfolding unpacked_of
four-lost = refl

-- two variable parts and an optional part: the second and the optional one share octet 6, and a
-- check that misses this pair takes the message
abbrev pub two : Shape
two = record { fixed = 0; vars = 2; opt = true }

pub pair-refused : parts_of (1 ∷ 3 ∷ 3 ∷ 3 ∷ 0 ∷ 1 ∷ 0 ∷ []) 0 268 (Some two) ≡ refused 8 6
unfolding step_at_lem stops stop_from run_from variable_at_lem optional_at_lem variable_slot_lem optional_slot_lem shares_of judged held container_of parts_of
pair-refused = refl

-- three variable parts: the third shares an octet with the first and with the second, and 8 is
-- about the first of these pairs, though the other's octet comes earlier
abbrev pub three : Shape
three = record { fixed = 0; vars = 3; opt = false }

pub first-pair : parts_of (1 ∷ 6 ∷ 2 ∷ 2 ∷ 1 ∷ 3 ∷ 0 ∷ 1 ∷ 0 ∷ []) 0 268 (Some three) ≡ refused 8 7
unfolding step_at_lem stops stop_from run_from variable_at_lem optional_at_lem variable_slot_lem optional_slot_lem shares_of judged held container_of parts_of
first-pair = refl
