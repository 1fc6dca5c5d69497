-- Words of a line, and what each stands for.
use Rattle.std.specs.Prelude.{ℕ, suc, ◌+◌, ◌*◌, ◌/◌, ◌%◌, Bool, true, false, List, [], ◌∷◌, ltb, eqb, length, get_or, drop, Option, Some, None}
use Rattle.octets.specs.Choice.{when◌then◌else◌}
use Rattle.words.specs.Digits.{value_of}

-- how many octets stand before the first space
unfoldable pub word_length : List ℕ → ℕ
word_length [] = 0
word_length (c ∷ cs) = when eqb c 32 then 0 else suc (word_length cs)

-- where the word that begins at octet `from` ends: at the first space from
-- there on, or at the line's end
abbrev pub word_end_lem : List ℕ → ℕ → ℕ
word_end_lem line from = from + word_length (drop from line)

-- whether two words are the same
unfoldable pub same : List ℕ → List ℕ → Bool
same [] [] = true
same [] (b ∷ ys) = false
same (a ∷ xs) [] = false
same (a ∷ xs) (b ∷ ys) = when eqb a b then same xs ys else false

-- the number that decimal digits go on to, after digits that stand for v; it may not pass `most`
unfoldable pub digits_from : ℕ → ℕ → List ℕ → Option ℕ
digits_from most v [] = Some v
digits_from most v (c ∷ cs) =
    when ltb 9 (value_of c) then None
    else when ltb most (10 * v + value_of c) then None
    else digits_from most (10 * v + value_of c) cs

-- a number: decimal digits alone, one to ten of them, up to `most`
unfoldable pub number_of : ℕ → List ℕ → Option ℕ
number_of most word =
    when eqb (length word) 0 then None
    else when ltb 10 (length word) then None
    else digits_from most 0 word

-- whether each octet is a hexadecimal digit
unfoldable pub all_digits_lem : List ℕ → Bool
all_digits_lem [] = true
all_digits_lem (c ∷ cs) = when ltb 15 (value_of c) then false else all_digits_lem cs

-- whether a word stands for octets: `-` for none, or two hexadecimal digits for each of 1 to `most`
unfoldable pub are_octets : ℕ → List ℕ → Bool
are_octets most word =
    when eqb (length word) 1 then eqb (get_or word 0 0) 45
    else when eqb (length word) 0 then false
    else when ltb most (length word / 2) then false
    else when eqb (length word % 2) 1 then false
    else all_digits_lem word

-- one octet: two hexadecimal digits, the high half first
unfoldable pub octet_of_lem : List ℕ → Option ℕ
octet_of_lem word =
    when eqb (length word) 2
    then (when all_digits_lem word
    then Some ((16 * value_of (get_or word 0 0) + value_of (get_or word 1 0)) % 256) else None)
    else None

-- two digits an octet, the high half first
unfoldable pub pairs_of : List ℕ → List ℕ
pairs_of [] = []
pairs_of (a ∷ []) = []
pairs_of (a ∷ b ∷ cs) = (16 * value_of a + value_of b) % 256 ∷ pairs_of cs

-- the octets that a word stands for
unfoldable pub octets_of : List ℕ → List ℕ
octets_of word = when eqb (length word) 1 then [] else pairs_of word
