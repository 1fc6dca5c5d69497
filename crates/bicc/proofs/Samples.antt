-- Messages read by hand: the code's least significant octet first, 1 below five
-- octets, and a type that is ISUP's alone.
use mathlib.Core.Path.{◌≡◌, refl}
use mathlib.Core.List.{[], ◌∷◌}
use Rattle.octets.specs.Answer.{accepted, refused}
use Rattle.runs.specs.Run.{step_at_lem, stops, stop_from}
use Rattle.parts.specs.Spans.{span}
use Rattle.layout.specs.Container.{nothing, run_from, variable_at_lem, optional_at_lem, variable_slot_lem, optional_slot_lem, container_of, parts_of}
use Rattle.parts.specs.Overlap.{shares_of, judged, held}
use Rattle.isup.specs.Table.{shape_of as isup_shape_of}
use Rattle.bicc.specs.Table.{call_shape_of}
use Rattle.bicc.specs.Read.{call_read_of}

-- REL with code 67305985 (hexadecimal 04030201), contents 80 90 and no optional parameters
pub rel-read : call_read_of (0x01 ∷ 0x02 ∷ 0x03 ∷ 0x04 ∷ 0x0C ∷ 0x02 ∷ 0x00 ∷ 0x02 ∷ 0x80 ∷ 0x90 ∷ [])
    ≡ accepted (record { code = 67305985; kind = 0x0C; parts = record { fixed = span 5 5; first = span 8 10; second = nothing; third = nothing; optional = nothing } })
unfolding step_at_lem stops stop_from run_from variable_at_lem optional_at_lem variable_slot_lem optional_slot_lem shares_of judged held container_of parts_of isup_shape_of call_shape_of call_read_of
rel-read = refl

-- a code and no type: 1
pub four-octets : call_read_of (0x01 ∷ 0x02 ∷ 0x03 ∷ 0x04 ∷ []) ≡ refused 1 0
unfolding parts_of call_read_of
four-octets = refl

-- BLO: 3, about octet 4
pub blo-refused : call_read_of (0x01 ∷ 0x02 ∷ 0x03 ∷ 0x04 ∷ 0x13 ∷ []) ≡ refused 3 4
unfolding container_of parts_of call_shape_of call_read_of
blo-refused = refl

-- RSC is BICC's
pub rsc-read : call_read_of (0xFF ∷ 0xFF ∷ 0xFF ∷ 0xFF ∷ 0x12 ∷ [])
    ≡ accepted (record { code = 4294967295; kind = 0x12; parts = record { fixed = span 5 5; first = nothing; second = nothing; third = nothing; optional = nothing } })
unfolding step_at_lem stops stop_from run_from variable_at_lem optional_at_lem variable_slot_lem optional_slot_lem shares_of judged held container_of parts_of isup_shape_of call_shape_of call_read_of
rsc-read = refl
