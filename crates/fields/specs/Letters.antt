-- The letters by which a form says the kinds of its fields, and the limits of those kinds.
use Rattle.std.specs.Prelude.{ℕ, eqb, get_or}
use Prim.Native.String.{String}
use Rattle.octets.specs.Choice.{when◌then◌else◌}
use Rattle.words.specs.Said.{said}
use Rattle.fields.specs.Kinds.{Kind, a_number, a_last, an_octet, some_octets, a_word}

-- any number of 32 bits
abbrev pub any_most : ℕ
any_most = 4294967295

-- the last circuit
abbrev pub circuit_most : ℕ
circuit_most = 4095

-- the largest number of one octet
abbrev pub octet_most : ℕ
octet_most = 255

-- the last block of circuits
abbrev pub block_most : ℕ
block_most = 63

-- the largest code of a bearing or of a speed
abbrev pub code_most : ℕ
code_most = 65535

-- the octets of answer buffer that a line may lend, at the most
abbrev pub room_most : ℕ
room_most = 1024

-- the octets of one field, at the most, where it is no plan
abbrev pub octets_most : ℕ
octets_most = 1024

-- the octets of a plan, at the most: nine for each circuit
abbrev pub plan_most : ℕ
plan_most = 36864

-- a letter, as its octet
abbrev pub letter : String → ℕ
letter text = get_or (said text) 0 0

-- the limit of a number by its letter: c a circuit, v a sender, a state, a total or a
-- vertical code, b a block of circuits, h a bearing's or a speed's code, r room, p
-- room for a plan; any other (n) any number
unfoldable pub most_of : ℕ → ℕ
most_of l =
    when eqb l (letter "c") then circuit_most
    else when eqb l (letter "v") then octet_most
    else when eqb l (letter "b") then block_most
    else when eqb l (letter "h") then code_most
    else when eqb l (letter "r") then room_most
    else when eqb l (letter "p") then plan_most
    else any_most

-- the kind of a field by its letter: o an octet in two hexadecimal digits, s octets, q those of a
-- plan, w a word as it is typed, l the last circuit of a span; any other a number
unfoldable pub kind_of : ℕ → Kind
kind_of l =
    when eqb l (letter "o") then an_octet
    else when eqb l (letter "s") then some_octets octets_most
    else when eqb l (letter "q") then some_octets plan_most
    else when eqb l (letter "w") then a_word
    else when eqb l (letter "l") then a_last circuit_most
    else a_number (most_of l)
