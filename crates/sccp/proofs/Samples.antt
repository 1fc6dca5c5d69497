-- Messages read by hand: a UDT with its three contents, the empty message, and LUDT.
use mathlib.Core.Path.{◌≡◌, refl, sym, ◌∙◌}
use mathlib.Core.List.{[], ◌∷◌}
use Rattle.octets.specs.Answer.{accepted, refused}
use Rattle.octets.proofs.Answer.{refused-accepted}
use Rattle.runs.specs.Run.{step_at_lem, stops, stop_from}
use Rattle.parts.specs.Spans.{span}
use Rattle.layout.specs.Container.{nothing, run_from, variable_at_lem, optional_at_lem, variable_slot_lem, optional_slot_lem, container_of, parts_of}
use Rattle.parts.specs.Overlap.{shares_of, judged, held}
use Rattle.sccp.specs.declared.Message.{Message}
use Rattle.sccp.specs.Table.{sccp_shape_of}
use Rattle.sccp.specs.Read.{sccp_read_of}

-- UDT of class 0 with contents 42 08, 42 06 and AA
pub udt-read : sccp_read_of (0x09 ∷ 0x00 ∷ 0x03 ∷ 0x05 ∷ 0x07 ∷ 0x02 ∷ 0x42 ∷ 0x08 ∷ 0x02 ∷ 0x42 ∷ 0x06 ∷ 0x01 ∷ 0xAA ∷ [])
    ≡ accepted (record { kind = 0x09; parts = record { fixed = span 1 2; first = span 6 8; second = span 9 11; third = span 12 13; optional = nothing } })
unfolding step_at_lem stops stop_from run_from variable_at_lem optional_at_lem variable_slot_lem optional_slot_lem shares_of judged held container_of parts_of sccp_shape_of sccp_read_of
udt-read = refl

-- an empty message: 1
pub empty-refused : sccp_read_of [] ≡ refused 1 0
unfolding parts_of sccp_read_of
empty-refused = refl

-- so a reader that takes it is wrong
pub empty-taken : (x : Message) → sccp_read_of [] ≡ accepted x → ⊥
empty-taken x e = refused-accepted (sym empty-refused ∙ e)

-- LUDT: 3, about octet 0
pub ludt-refused : sccp_read_of (0x13 ∷ 0x00 ∷ []) ≡ refused 3 0
unfolding container_of parts_of sccp_shape_of sccp_read_of
ludt-refused = refl

-- an ERR without its optional pointer: 4, about the message's end
pub err-cut : sccp_read_of (0x0F ∷ 0x01 ∷ 0x02 ∷ 0x03 ∷ 0x00 ∷ []) ≡ refused 4 5
unfolding container_of parts_of sccp_shape_of sccp_read_of
err-cut = refl
