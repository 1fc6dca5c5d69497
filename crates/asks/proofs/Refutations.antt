-- What a wrong reading of the status, or a wrong order of refusals, would say.
use mathlib.Core.Path.{◌≡◌, refl}
use mathlib.Core.Bool.{true, false}
use mathlib.Core.List.{[], ◌∷◌}
use Rattle.octets.specs.Answer.{refused}
use Rattle.octets.specs.Sum.{total}
use Rattle.layout.specs.Container.{variable_at_lem, optional_at_lem, variable_slot_lem, optional_slot_lem, container_of, parts_of}
use Rattle.parts.specs.Overlap.{shares_of, judged, held}
use Rattle.isup.specs.Types.{CGB}
use Rattle.isup.specs.Table.{shape_of}
use Rattle.isup.specs.Read.{read_of}
use Rattle.marks.specs.Marks.{marks_in_lem}
use Rattle.asks.specs.Types.{act_for}
use Rattle.asks.specs.Asks.{broken_group, asked_in, ask_of, bit_at}

-- status octet 1 marks the first of eight circuits, and not the last
pub low-bit-first : (bit_at (1 ∷ []) 0 0 ≡ true) × (bit_at (1 ∷ []) 0 7 ≡ false)
unfolding bit_at
low-bit-first = (refl, refl)

-- CGB for circuit 4080 and the 39 after it, which pass 4095, with 33 marks: 14 comes before 18
pub fourteen-first : ask_of (0xF0 ∷ 0x0F ∷ CGB ∷ 0x00 ∷ 0x01 ∷ 0x06 ∷ 0x27 ∷ 0xFF ∷ 0xFF ∷ 0xFF ∷ 0xFF ∷ 0x01 ∷ []) ≡ refused 14 0
unfolding total marks_in_lem broken_group asked_in ask_of act_for variable_at_lem optional_at_lem variable_slot_lem optional_slot_lem shares_of judged held container_of parts_of shape_of read_of
fourteen-first = refl
