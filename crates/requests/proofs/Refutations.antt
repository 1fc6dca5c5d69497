-- Wrong programs, each refuted on one line: what it takes is not what the
-- definition says, which stands here.
use mathlib.Core.Path.{◌≡◌, refl}
use mathlib.Core.List.{[], ◌∷◌}
use Rattle.words.specs.Said.{said}
use Rattle.words.specs.Digits.{value_of}
use Rattle.words.specs.Words.{same, digits_from, number_of, all_digits_lem, octet_of_lem, are_octets, pairs_of, octets_of}
use Rattle.fields.specs.Kinds.{field_says}
use Rattle.fields.specs.Letters.{most_of, kind_of}
use Rattle.forms.specs.Rows.{FIND, DIAL, ROWS, VELOCITY-LONG, TOTALS, PLAN}
use Rattle.requests.specs.Words.{lettered, words_of, words_say, asking, nothing, asked_by_lem, asked_by_table, asked_of}

-- a sender of 256, which a circuit may be
pub limit-refuted : asked_of (said "own 3 9 256") ≡ nothing
unfolding asked_of asked_by_table asked_by_lem words_of lettered same words_say kind_of most_of number_of digits_from value_of
limit-refuted = refl

-- a room of 1025
pub room-1025-refuted : asked_of (said "compact - 1025") ≡ nothing
unfolding asked_of asked_by_table asked_by_lem words_of lettered same words_say kind_of most_of are_octets octets_of number_of digits_from value_of
room-1025-refuted = refl

-- a word that ends as a request's does, and one that begins one
pub letter-refuted : asked_of (said "xhape 01") ≡ nothing
unfolding asked_of asked_by_table asked_by_lem words_of lettered same
letter-refuted = refl

pub prefix-refuted : asked_of (said "row 3 9") ≡ nothing
unfolding asked_of asked_by_table asked_by_lem words_of lettered same
prefix-refuted = refl

-- a word left, and one that is missing
pub words-left-refuted : asked_of (said "read 00 00") ≡ nothing
unfolding asked_of asked_by_table asked_by_lem words_of lettered same words_say kind_of are_octets octets_of all_digits_lem pairs_of value_of
words-left-refuted = refl

pub missing-refuted : asked_of (said "rows 3") ≡ nothing
unfolding asked_of asked_by_table asked_by_lem words_of lettered same words_say kind_of most_of number_of digits_from value_of
missing-refuted = refl

-- the last of a span before its first
pub order-refuted : asked_of (said "rows 9 3") ≡ nothing
unfolding asked_of asked_by_table asked_by_lem words_of lettered same words_say kind_of most_of number_of digits_from value_of
order-refuted = refl

-- two lines that ask something, and one with a space at its end
pub rows-asked : asked_of (said "rows 3 9") ≡ asking ROWS (field_says 3 [] ∷ field_says 9 [] ∷ [])
unfolding asked_of asked_by_table asked_by_lem words_of lettered same words_say kind_of most_of number_of digits_from value_of
rows-asked = refl

pub find-asked : asked_of (said "find 12 0a -") ≡ asking FIND (field_says 18 [] ∷ field_says 0 (10 ∷ []) ∷ field_says 0 [] ∷ [])
unfolding asked_of asked_by_table asked_by_lem words_of lettered same words_say kind_of most_of octet_of_lem are_octets all_digits_lem value_of octets_of pairs_of
find-asked = refl

pub space-refuted : asked_of (said "find 12 0a - ") ≡ nothing
unfolding asked_of asked_by_table asked_by_lem words_of lettered same words_say kind_of most_of octet_of_lem are_octets all_digits_lem value_of octets_of pairs_of
space-refuted = refl

-- a nature of 1025, which a number of any size may be
pub nature-asked : asked_of (said "dial 1025 0 0 - 0") ≡ asking DIAL (field_says 1025 [] ∷ field_says 0 [] ∷ field_says 0 [] ∷ field_says 0 [] ∷ field_says 0 [] ∷ [])
unfolding asked_of asked_by_table asked_by_lem words_of lettered same words_say kind_of most_of are_octets octets_of number_of digits_from value_of
nature-asked = refl

-- the second form of a word, which the first does not fit
pub long-asked : asked_of (said "velocity 12.5 80 3 up") ≡ asking VELOCITY-LONG (field_says 0 (said "12.5") ∷ field_says 0 (said "80") ∷ field_says 0 (said "3") ∷ field_says 0 (said "up") ∷ [])
unfolding asked_of asked_by_table asked_by_lem words_of lettered same words_say kind_of most_of
long-asked = refl

-- a word of 19 octets
pub nineteen-refuted : asked_of (said "velocity 1 0000000000000000000") ≡ nothing
unfolding asked_of asked_by_table asked_by_lem words_of lettered same words_say kind_of most_of
nineteen-refuted = refl

-- a block past the last
pub block-64-refuted : asked_of (said "total 64 0") ≡ nothing
unfolding asked_of asked_by_table asked_by_lem words_of lettered same words_say kind_of most_of number_of digits_from value_of
block-64-refuted = refl

-- a request with no field, and the same with a word left
pub bare-asked : asked_of (said "totals") ≡ asking TOTALS []
unfolding asked_of asked_by_table asked_by_lem words_of lettered same words_say
bare-asked = refl

pub bare-left-refuted : asked_of (said "totals 0") ≡ nothing
unfolding asked_of asked_by_table asked_by_lem words_of lettered same words_say
bare-left-refuted = refl

-- a plan may have nine octets for each circuit, and no more
pub plan-room-asked : asked_of (said "plan 7 2 36864") ≡ asking PLAN (field_says 7 [] ∷ field_says 2 [] ∷ field_says 36864 [] ∷ [])
unfolding asked_of asked_by_table asked_by_lem words_of lettered same words_say kind_of most_of number_of digits_from value_of
plan-room-asked = refl

pub plan-room-refuted : asked_of (said "plan 7 2 36865") ≡ nothing
unfolding asked_of asked_by_table asked_by_lem words_of lettered same words_say kind_of most_of number_of digits_from value_of
plan-room-refuted = refl
