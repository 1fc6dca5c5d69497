-- What a line asks, by its words, as the manual has it: a request's word, and a word
-- for each field of its form. `Along` says the same by places of the line, and the two
-- agree (`request-says` of proofs/Agree.antt).
use Rattle.std.specs.Prelude.{ℕ, suc, ◌-◌, ◌%◌, ◌≤◌, ◌≡◌, List, [], ◌∷◌, ◌++◌, ltb, eqb, length, get_or, replicate}
use Rattle.octets.specs.Choice.{when◌then◌else◌}
use Rattle.words.specs.Words.{same}
use Rattle.fields.specs.Kinds.{Kind, a_number, a_last, an_octet, some_octets, a_word, typed_most, FieldSays, unsaid, meaning, Found, found, lost, leading, onward, or_else}
use Rattle.fields.specs.Letters.{octet_most}
use Rattle.forms.specs.Table.{Form, forms, kinds_of, kinds_at}

-- the octets of a line, at the most
abbrev pub line_most : ℕ
line_most = 81920

-- the fields of a request, at the most
abbrev pub fields_most : ℕ
fields_most = 8

-- one octet more at the front of the first word
unfoldable pub lettered : ℕ → List (List ℕ) → List (List ℕ)
lettered c [] = (c ∷ []) ∷ []
lettered c (w ∷ ws) = (c ∷ w) ∷ ws

-- the words of a line: each space ends one and begins the next, so that two spaces have an empty
-- word between them, and a space at an end has one beyond it
unfoldable pub words_of : List ℕ → List (List ℕ)
words_of [] = [] ∷ []
words_of (c ∷ cs) = when eqb c 32 then [] ∷ words_of cs else lettered c (words_of cs)

-- what words say by the kinds of their fields: a word for each, and none is left
unfoldable pub words_say : List Kind → ℕ → List (List ℕ) → Found (List FieldSays)
words_say [] before [] = found []
words_say [] before (w ∷ ws) = lost
words_say (k ∷ ks) before [] = lost
words_say (k ∷ ks) before (w ∷ ws) =
    onward (meaning k before w) (λ g. leading g (words_say ks g.value ws))

-- what is asked: a row, and what its fields say, with fields that say nothing up to eight
pub data Asked : Type 0 where
  asks : ℕ → List FieldSays → Asked
  nothing : Asked

-- the row with these fields
abbrev pub asking : ℕ → List FieldSays → Asked
asking which gs = asks which (gs ++ replicate (fields_most - length gs) unsaid)

-- the first form of that name, from row `which` on, that the words fit
unfoldable pub asked_by_lem : List Form → ℕ → List ℕ → List (List ℕ) → Asked
asked_by_lem [] which name words = nothing
asked_by_lem (f ∷ fs) which name words =
    when same name f.word
    then or_else (words_say (kinds_of f) 0 words) (asking which) (asked_by_lem fs (suc which) name words)
    else asked_by_lem fs (suc which) name words

-- what words ask by the table: the first is the request's name
unfoldable pub asked_by_table : List (List ℕ) → Asked
asked_by_table [] = nothing
asked_by_table (name ∷ words) = asked_by_lem forms 0 name words

-- what a line asks; one that is too long asks nothing
unfoldable pub asked_of : List ℕ → Asked
asked_of line = when ltb line_most (length line) then nothing else asked_by_table (words_of line)

-- the number of field i
abbrev pub number_at : List FieldSays → ℕ → ℕ
number_at gs i = (get_or gs i unsaid).value

-- the octet of field i, whose number is below 256
abbrev pub octet_at_lem : List FieldSays → ℕ → ℕ
octet_at_lem gs i = number_at gs i % 256

-- the octets of field i
abbrev pub octets_at : List FieldSays → ℕ → List ℕ
octets_at gs i = (get_or gs i unsaid).octets

-- what a field of a kind keeps to: the number's limit, or that of how many octets there are
abbrev pub Keeps : Kind → ℕ → FieldSays → Type 0
Keeps (a_number most) before g = (g.value ≤ most) × (g.octets ≡ [])
Keeps (a_last most) before g = (before ≤ g.value) × (g.value ≤ most) × (g.octets ≡ [])
Keeps an_octet before g = (g.value ≤ octet_most) × (g.octets ≡ [])
Keeps (some_octets most) before g = length g.octets ≤ most
Keeps a_word before g = length g.octets ≤ typed_most

-- what the fields from field i on keep to
abbrev pub Kept : List Kind → ℕ → List FieldSays → ℕ → Type 0
Kept [] before gs i = Unit {0}
Kept (k ∷ ks) before gs i =
    Keeps k before (get_or gs i unsaid) × Kept ks (get_or gs i unsaid).value gs (suc i)

-- what every request keeps to, by its row's kinds
abbrev pub SoundRequest : Asked → Type 0
SoundRequest (asks which gs) = Kept (kinds_at forms which) 0 gs 0
SoundRequest nothing = Unit {0}
