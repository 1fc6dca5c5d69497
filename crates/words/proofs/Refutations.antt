-- Wrong programs, each refuted on one word: what it answers is not what the
-- definition says, which stands here.
use Rattle.std.specs.Prelude.{Some, None}
use mathlib.Core.Path.{◌≡◌, refl}
use mathlib.Core.List.{[], ◌∷◌}
use Rattle.words.specs.Said.{said}
use Rattle.words.specs.Digits.{value_of}
use Rattle.words.specs.Words.{word_length, word_end_lem, digits_from, number_of, all_digits_lem, octet_of_lem}
use Rattle.words.specs.Into.{entry, pairs_into, octets_into_lem}

-- g is no digit, and A is 10
pub g-refuted : value_of 103 ≡ 16
unfolding value_of
g-refuted = refl

pub capitals-refuted : value_of 65 ≡ 10
unfolding value_of
capitals-refuted = refl

-- a dash ends no word
pub dash-refuted : word_end_lem (said "a-b") 0 ≡ 3
unfolding word_length
dash-refuted = refl

-- eleven digits, though they stand for 0
pub eleven-digits-refuted : number_of 4095 (said "00000000000") ≡ None
unfolding number_of digits_from value_of
eleven-digits-refuted = refl

-- three digits, and the halves of an octet
pub three-digits-refuted : octet_of_lem (said "000") ≡ None
unfolding octet_of_lem all_digits_lem value_of
three-digits-refuted = refl

pub low-half-refuted : octet_of_lem (said "01") ≡ Some 1
unfolding octet_of_lem all_digits_lem value_of
low-half-refuted = refl

-- more octets than may be, one digit alone, and the halves of an octet
pub octets-3-refuted : octets_into_lem 2 (said "000000") (7 ∷ 7 ∷ 7 ∷ []) 0 ≡ entry None (7 ∷ 7 ∷ 7 ∷ [])
unfolding octets_into_lem
octets-3-refuted = refl

pub one-zero-refuted : octets_into_lem 2 (said "0") (7 ∷ []) 0 ≡ entry None (7 ∷ [])
unfolding octets_into_lem
one-zero-refuted = refl

pub halves-refuted : octets_into_lem 2 (said "12") (7 ∷ 7 ∷ []) 1 ≡ entry (Some 1) (7 ∷ 18 ∷ [])
unfolding octets_into_lem pairs_into value_of
halves-refuted = refl
