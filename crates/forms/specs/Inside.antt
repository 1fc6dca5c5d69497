-- What the code's own contracts use: a word as a number, by which its row is
-- found, and the letters of a row in one number.
use Rattle.std.specs.Prelude.{ℕ, zero, suc, ◌+◌, ◌*◌, ◌-◌, ◌/◌, ◌%◌, Bool, true, false, List, [], ◌∷◌, ltb, eqb, length}
use Rattle.octets.specs.Choice.{when◌then◌else◌}
use Rattle.fields.specs.Kinds.{Kind}
use Rattle.fields.specs.Letters.{kind_of}
use Rattle.forms.specs.declared.Row.{Row}
use Rattle.forms.specs.Table.{Form}
use Rattle.forms.specs.Rows.{BAD}

-- the letters of a word with a number, at the most: one more and it does not fit 64 bits
abbrev pub word_most : ℕ
word_most = 13

-- a to z are 1 to 26, a dash is 27; 0 for any other octet
unfoldable pub letter_of : ℕ → ℕ
letter_of c =
    when ltb 122 c then 0
    else when ltb 96 c then c - 96
    else when eqb c 45 then 27
    else 0

-- whether each octet is a letter
unfoldable pub letters_all : List ℕ → Bool
letters_all [] = true
letters_all (c ∷ cs) = when eqb (letter_of c) 0 then false else letters_all cs

-- 28 for each place, the first letter first
unfoldable pub digits_of : List ℕ → ℕ
digits_of [] = 0
digits_of (c ∷ cs) = 28 * digits_of cs + letter_of c

-- the number that stands for a word, 0 where it has none: no two words have the same
unfoldable pub key_of : List ℕ → ℕ
key_of word =
    when ltb word_most (length word) then 0
    else when letters_all word then digits_of word
    else 0

-- letters in one number: 256 for each place, the first letter first
abbrev pub letters_packed : List ℕ → ℕ
letters_packed [] = 0
letters_packed (c ∷ cs) = c + 256 * letters_packed cs

-- the kinds of up to n letters
unfoldable pub kinds_in : ℕ → ℕ → List Kind
kinds_in zero letters = []
kinds_in (suc n) letters =
    when eqb letters 0 then [] else kind_of (letters % 256) ∷ kinds_in n (letters / 256)

-- the letters of the first row, in one number, where its word has that key; else 0
abbrev pub letters_next : List Form → ℕ → ℕ
letters_next [] key = 0
letters_next (f ∷ fs) key = when eqb key (key_of f.word) then letters_packed f.letters else 0

-- the row of a key, from row `which` on, and the letters of the row after it
-- where that is another form of the same word
unfoldable pub row_in : List Form → ℕ → ℕ → Row
row_in [] which key = record { which = BAD; letters = 0; longer = 0 }
row_in (f ∷ fs) which key =
    when eqb key (key_of f.word)
    then record { which = which; letters = letters_packed f.letters; longer = letters_next fs key }
    else row_in fs (suc which) key
