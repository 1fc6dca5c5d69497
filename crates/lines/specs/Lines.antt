-- What the lines of the desk's answers have in common: a word with a number or with octets, a
-- refusal, what was written to a lent buffer.
use Rattle.std.specs.Prelude.{ℕ, List, ◌++◌, ltb, take, replicate}
use Prim.Native.String.{String}
use Rattle.octets.specs.Choice.{when◌then◌else◌}
use Rattle.octets.specs.Answer.{Answer, accepted, refused}
use Rattle.octets.specs.Filled.{Done}
use Rattle.words.specs.Said.{said}
use Rattle.printing.specs.Shown.{decimal_of, hex_of}
use Rattle.fields.specs.Letters.{room_most}

-- a word with a number after it
abbrev pub counted : String → ℕ → List ℕ
counted word n = said word ++ decimal_of n

-- a word with octets after it
abbrev pub shown : String → List ℕ → List ℕ
shown word xs = said word ++ hex_of xs

-- refused N
abbrev pub refusal : ℕ → List ℕ
refusal n = counted "refused " n

-- refused 5 at 3, with the octet that a reader's number from 3 to 8 is about;
-- every other number stays refused N
unfoldable pub fault_line : ℕ → ℕ → List ℕ
fault_line n at =
    when ltb n 3 then refusal n
    else when ltb 8 n then refusal n
    else refusal n ++ counted " at " at

-- octets 230113, of the buffer that was lent
unfoldable pub written_line : Answer ℕ → List ℕ → List ℕ
written_line (accepted n) buffer = shown "octets " (take n buffer)
written_line (refused n at) buffer = refusal n

-- the same of what was done with the buffer
abbrev pub octets_line : Done ℕ → List ℕ
octets_line d = written_line d.answer d.left

-- octets 230113, of the buffer that was lent; or the refusal with the reader's octet
unfoldable pub again_line : Answer ℕ → List ℕ → List ℕ
again_line (accepted n) buffer = shown "octets " (take n buffer)
again_line (refused n at) buffer = fault_line n at

-- the same of what was done with the buffer
abbrev pub compact_line : Done ℕ → List ℕ
compact_line d = again_line d.answer d.left

-- as many octets as a line may lend, all 0
unfoldable pub blank : List ℕ
blank = replicate room_most 0

-- a lent buffer of so many octets
abbrev pub lent : ℕ → List ℕ
lent room = take room blank
