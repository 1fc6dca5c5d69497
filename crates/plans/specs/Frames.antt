-- Messages one after the other, each after one length octet.
use Rattle.std.specs.Prelude.{ℕ, List, [], ◌∷◌, ◌++◌, length}

-- the messages in turn, each with its length in front
unfoldable pub framed : List (List ℕ) → List ℕ
framed [] = []
framed (m ∷ ms) = length m ∷ (m ++ framed ms)

-- it holds of each of the list
abbrev pub Each : {A : Type 0} → (A → Type 0) → List A → Type 0
Each P [] = Unit {0}
Each P (x ∷ xs) = P x × Each P xs
