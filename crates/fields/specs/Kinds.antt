-- The kinds of a request's fields, and what a word says as a field of a kind.
use Rattle.std.specs.Prelude.{ℕ, List, [], ◌∷◌, ltb, length, Option, Some, None}
use Rattle.octets.specs.Choice.{when◌then◌else◌}
use Rattle.words.specs.Words.{number_of, octet_of_lem, are_octets, octets_of}

-- the octets of a word that is kept as it is typed, at the most
abbrev pub typed_most : ℕ
typed_most = 18

-- a number up to a limit; one that is not below the number before it; one octet, a type or a
-- parameter's name; octets up to a limit; a word as it is typed
pub data Kind : Type 0 where
  a_number : ℕ → Kind
  a_last : ℕ → Kind
  an_octet : Kind
  some_octets : ℕ → Kind
  a_word : Kind

-- what a field says: a number, 0 where it says octets; and octets, none where it says a number
pub record FieldSays : Type 0 where
  pub value : ℕ
  pub octets : List ℕ

-- what a field says, of both
abbrev pub field_says : ℕ → List ℕ → FieldSays
field_says value octets = record { value = value; octets = octets }

-- a field that says nothing
abbrev pub unsaid : FieldSays
unsaid = field_says 0 []

-- what was looked for, or that it is not there
pub data Found (A : Type 0) : Type 0 where
  found : A → Found A
  lost : Found A

-- a number that is not below another
abbrev pub not_below_lem : ℕ → Option ℕ → Option ℕ
not_below_lem least (Some v) = when ltb v least then None else Some v
not_below_lem least None = None

-- a number, as what a field says
abbrev pub number_says : Option ℕ → Found FieldSays
number_says (Some v) = found (field_says v [])
number_says None = lost

-- what a word says as a field of a kind, after a field whose number is `before`
abbrev pub meaning : Kind → ℕ → List ℕ → Found FieldSays
meaning (a_number most) before word = number_says (number_of most word)
meaning (a_last most) before word = number_says (not_below_lem before (number_of most word))
meaning an_octet before word = number_says (octet_of_lem word)
meaning (some_octets most) before word =
    when are_octets most word then found (field_says 0 (octets_of word)) else lost
meaning a_word before word = when ltb typed_most (length word) then lost else found (field_says 0 word)

-- one more at the front of those that were found
abbrev pub leading : {A : Type 0} → A → Found (List A) → Found (List A)
leading a (found xs) = found (a ∷ xs)
leading a lost = lost

-- go on with what was found
abbrev pub onward : {A B : Type 0} → Found A → (A → Found B) → Found B
onward (found a) rest = rest a
onward lost rest = lost

-- what comes of what was found, or another
abbrev pub or_else : {A B : Type 0} → Found A → (A → B) → B → B
or_else (found a) some other = some a
or_else lost some other = other
