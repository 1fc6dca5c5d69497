-- SCCP at the boundary: what reading gives.
use Rattle.std.specs.Prelude.{ℕ, ◌<◌, List, [], ◌∷◌, ◌++◌, length}
use Rattle.octets.specs.Answer.{◌then◌}
use Rattle.octets.specs.Faults.{Fault, fault}
use Rattle.octets.specs.Filled.{Done, done, room_for}
use Rattle.parts.specs.Spans.{span_size}
use Rattle.sccp.specs.declared.Message.{Message}
use Rattle.sccp.specs.Read.{sccp_read_of}
use Rattle.sccp.specs.Faults.{sccp_faults}
use Rattle.boundary.specs.Boundary.{fixed_start_lem, InSixteenBits, SmallParts}

-- type, then start and length of the fixed part, of the first, the second and
-- the third contents, and of the optional run
abbrev pub sccp_values_of : Message → List ℕ
sccp_values_of x =
    x.kind
    ∷ fixed_start_lem x.parts.fixed ∷ span_size x.parts.fixed
    ∷ x.parts.first.from ∷ span_size x.parts.first
    ∷ x.parts.second.from ∷ span_size x.parts.second
    ∷ x.parts.third.from ∷ span_size x.parts.third
    ∷ x.parts.optional.from ∷ span_size x.parts.optional
    ∷ []

-- all parts of a message end within 16 bits, the third contents too
abbrev pub SmallSccp : Message → Type 0
SmallSccp x = SmallParts x.parts × InSixteenBits x.parts.third

-- reading: 11 numbers; the reader's numbers, then 13 where there is no room for them
unfoldable pub sccp_read_gives : List ℕ → List ℕ → Done ℕ
sccp_read_gives m parts = done parts (sccp_read_of m then λ x. room_for parts (11, sccp_values_of x))

-- the reader's, then 13 where there is no room for eleven numbers
abbrev pub sccp_read_gives_faults : List ℕ → List ℕ → List Fault
sccp_read_gives_faults m parts = sccp_faults m ++ (fault 13 0 (length parts < 11) ∷ [])
