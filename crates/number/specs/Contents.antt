-- The contents of a called party number, octet by octet.
use Rattle.std.specs.Prelude.{ℕ, ◌+◌, ◌*◌, ◌-◌, ◌/◌, ◌%◌, List, ◌∷◌, eqb, get_or, length, take, drop}
use Rattle.octets.specs.Choice.{when◌then◌else◌}
use Rattle.number.specs.Halves.{high_half, halves, two_to_an_octet}

-- bit 8 of an octet
abbrev pub bit8 : ℕ → ℕ
bit8 octet = octet / 128 % 2

-- octet 0 has the odd bit (bit 8)
abbrev pub odd_bit : List ℕ → ℕ
odd_bit contents = bit8 (get_or contents 0 0)

-- octet 0 has the nature of address in bits 7 to 1
abbrev pub nature_in : List ℕ → ℕ
nature_in contents = get_or contents 0 0 % 128

-- octet 1 has the internal network bit (bit 8)
abbrev pub internal_in : List ℕ → ℕ
internal_in contents = bit8 (get_or contents 1 0)

-- octet 1 has the numbering plan in bits 7 to 5; its low half is spare
abbrev pub plan_in : List ℕ → ℕ
plan_in contents = get_or contents 1 0 / 16 % 8

-- how many halves the octets after the first two have
abbrev pub half_count : List ℕ → ℕ
half_count contents = 2 * (length contents - 2)

-- how many signals there are: each half is one, but for the filler of an odd count
abbrev pub count_in : List ℕ → ℕ
count_in contents = half_count contents - odd_bit contents

-- the high half of the last octet
abbrev pub last_half : List ℕ → ℕ
last_half contents = high_half (get_or contents (length contents - 1) 0)

-- an odd count leaves the last half as filler; 0 stands for that of an even count
abbrev pub filler_in : List ℕ → ℕ
filler_in contents = when eqb (odd_bit contents) 0 then 0 else last_half contents

-- the signals are the halves of the octets after the first two, in order
unfoldable pub signals_in : List ℕ → List ℕ
signals_in contents = take (count_in contents) (halves (drop 2 contents))

-- octet 0 to write: the odd bit follows from the count of signals
abbrev pub first_octet : ℕ → ℕ → ℕ
first_octet nature count = 128 * (count % 2) + nature

-- octet 1 to write: the four spare bits are 0
abbrev pub second_octet : ℕ → ℕ → ℕ
second_octet plan internal = 128 * internal + 16 * plan

-- the contents to write
abbrev pub coded_as : ℕ → ℕ → ℕ → List ℕ → List ℕ
coded_as nature plan internal signals =
    first_octet nature (length signals) ∷ second_octet plan internal ∷ two_to_an_octet signals
