-- What a word stands for as a field of a kind: a number, or octets, which are put into a lent
-- scratch; and the field of it.
use Rattle.std.specs.Prelude.{ℕ, ◌-◌, List, ltb, length, Some, None}
use Rattle.std.proofs.lemmas.List.Edits.{sets}
use Rattle.octets.specs.Choice.{when◌then◌else◌}
use Rattle.words.specs.Words.{number_of, octet_of_lem}
use Rattle.words.specs.Into.{Entry, entry, octets_into_lem}
use Rattle.fields.specs.declared.Field.{Field}
use Rattle.fields.specs.Kinds.{Kind, a_number, a_last, an_octet, some_octets, a_word, typed_most, not_below_lem}

-- a field: the number that it stands for, and where its octets stand in the scratch
abbrev pub field : ℕ → ℕ → ℕ → Field
field value from count = record { value = value; from = from; count = count }

-- a field that a form does not have
abbrev pub no_field : Field
no_field = field 0 0 0

-- a word as it is typed, of up to 18 octets, into a buffer from octet `at`
-- on, where it has room for it
unfoldable pub word_into : List ℕ → List ℕ → ℕ → Entry
word_into word buffer at =
    when ltb typed_most (length word) then entry None buffer
    else when ltb (length buffer) at then entry None buffer
    else when ltb (length buffer - at) (length word) then entry None buffer
    else entry (Some (length word)) (sets buffer at word)

-- the number that a word stands for as a field of a kind, or how many octets, which are put into
-- the scratch from `next` on
abbrev pub entered : Kind → ℕ → List ℕ → List ℕ → ℕ → Entry
entered (a_number most) before word scratch next = entry (number_of most word) scratch
entered (a_last most) before word scratch next = entry (not_below_lem before (number_of most word)) scratch
entered an_octet before word scratch next = entry (octet_of_lem word) scratch
entered (some_octets most) before word scratch next = octets_into_lem most word scratch next
entered a_word before word scratch next = word_into word scratch next

-- the field of that number, or of that many octets
abbrev pub placed : Kind → ℕ → ℕ → Field
placed (a_number most) v next = field v next 0
placed (a_last most) v next = field v next 0
placed an_octet v next = field v next 0
placed (some_octets most) v next = field 0 next v
placed a_word v next = field 0 next v
