-- What reading and finding give.
use Rattle.std.specs.Prelude.{ℕ, List, [], ◌∷◌}
use Rattle.octets.specs.Answer.{◌then◌}
use Rattle.octets.specs.Filled.{Done, done, room_for}
use Rattle.isup.specs.declared.Message.{Message}
use Rattle.isup.specs.Read.{read_of}
use Rattle.finding.specs.Find.{locate_of}
use Rattle.boundary.specs.Boundary.{places_of, SmallParts}

-- circuit, type, then start and length of the fixed part, of the first and of the
-- second contents, and of the optional run
abbrev pub values_of : Message → List ℕ
values_of x = x.circuit ∷ x.kind ∷ places_of x.parts

-- no part of a message ends before it starts, or past what 16 bits hold
abbrev pub Small : Message → Type 0
Small x = SmallParts x.parts

-- reading: 10 numbers; the reader's numbers, then 13 where there is no room for them
unfoldable pub read_gives : List ℕ → List ℕ → Done ℕ
read_gives m parts = done parts (read_of m then λ x. room_for parts (10, values_of x))

-- finding: 0 where the message held it, 100 where the defaults did, and the stretch's start and
-- length; the finding's numbers, then 13
unfoldable pub find_gives : List ℕ → List ℕ → ℕ → List ℕ → Done ℕ
find_gives m defaults name stretch =
    done stretch (locate_of m defaults name
    then λ s. room_for stretch (s.holder, s.start ∷ s.len ∷ []))
