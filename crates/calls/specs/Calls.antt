-- BICC at the boundary: what reading gives.
use Rattle.std.specs.Prelude.{ℕ, ◌<◌, List, [], ◌∷◌, ◌++◌, length}
use Rattle.octets.specs.Answer.{◌then◌}
use Rattle.octets.specs.Faults.{Fault, fault}
use Rattle.octets.specs.Filled.{Done, done, room_for}
use Rattle.bicc.specs.declared.Message.{Message}
use Rattle.bicc.specs.Read.{call_read_of}
use Rattle.bicc.specs.Faults.{call_faults}
use Rattle.boundary.specs.Boundary.{places_of}

-- code, type, then start and length of the fixed part, of the first and of the
-- second contents, and of the optional run
abbrev pub call_values_of : Message → List ℕ
call_values_of x = x.code ∷ x.kind ∷ places_of x.parts

-- reading: 10 numbers; the reader's numbers, then 13 where there is no room for them
unfoldable pub call_read_gives : List ℕ → List ℕ → Done ℕ
call_read_gives m parts = done parts (call_read_of m then λ x. room_for parts (10, call_values_of x))

-- the reader's, then 13 where there is no room for ten numbers
abbrev pub call_read_gives_faults : List ℕ → List ℕ → List Fault
call_read_gives_faults m parts = call_faults m ++ (fault 13 0 (length parts < 10) ∷ [])
