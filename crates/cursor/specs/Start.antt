-- A cursor's start, its steps, and what the reader says of the message beside it.
use Rattle.std.specs.Prelude.{ℕ, zero, suc, ◌≡◌, List, [], ◌∷◌, Option, ⊤}
use Rattle.std.specs.Borrow.{Bor}
use Rattle.octets.specs.Answer.{Answer, accepted, refused}
use Rattle.parts.specs.declared.Parts.{Parts}
use Rattle.runs.specs.declared.Field.{Field}
use Rattle.family.specs.Family.{Family}
use Rattle.family.specs.Steps.{place_after_lem, start_in}
use Rattle.cursor.specs.declared.Cursor.{Cursor}

-- nothing where the message is taken; the refusal's number with the octet that it is about
abbrev pub refusal_by : Answer Parts → Answer ⊤
refusal_by (accepted p) = accepted tt
refusal_by (refused n at) = refused n at

-- the number that it has in the documents: 0 where the message is taken
abbrev pub start_number : Answer ⊤ → ℕ
start_number (accepted u) = 0
start_number (refused n at) = n

-- at its start a cursor holds the lent message itself, and stands where stepping
-- through a message of the family starts
abbrev pub Begun : Family → Bor (List ℕ) → Cursor → Type 0
Begun F s c = (c.message ≡ s) × (c.at ≡ start_in F s.now)

-- past a cursor stands one that holds the same memory, at the next place
abbrev pub Moved : Cursor → Cursor → Type 0
Moved c d = (d.message ≡ c.message) × (d.at ≡ place_after_lem c.message.now c.at)

-- the first n answers
abbrev pub firsts : ℕ → (ℕ → Option Field) → List (Option Field)
firsts zero g = []
firsts (suc n) g = g 0 ∷ firsts n (λ k. g (suc k))
