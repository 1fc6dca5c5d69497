-- The order of arrival, over any calls: each call is of a party, a party has a right on some rows,
-- and a call is a step on a state.
use Rattle.std.specs.Prelude.{ℕ, ◌≡◌, Bool, true, false, List, [], ◌∷◌, ◌⊎◌, eqb}
use Rattle.octets.specs.Choice.{when◌then◌else◌}

-- what a call is, what it answers, and what it leaves
pub record Calls : Type 1 where
  pub State : Type 0
  pub Row : Type 0
  pub Call : Type 0
  pub Reply : Type 0
  -- how long each table is, and row i
  pub sizes : State → List ℕ
  pub row : State → ℕ → Row
  -- whose call it is
  pub party : Call → ℕ
  -- whether a party has a right on a row
  pub holds : ℕ → ℕ → Bool
  -- the answer at this state, and the state afterwards
  pub answer : Call → State → Reply
  pub after : Call → State → State

module _ (K : Calls) where
  -- two states agree on a party's rows
  abbrev pub Agree : ℕ → K.State → K.State → Type 0
  Agree q s t =
      (K.sizes s ≡ K.sizes t) × ((i : ℕ) → K.holds q i ≡ true → K.row s i ≡ K.row t i)

  -- the two facts: a call's answer, and what it leaves on its party's rows, depend on those rows
  -- alone; and it leaves the other rows as they were
  pub record Apart : Type 0 where
    pub sees : (c : K.Call) (s t : K.State) → Agree (K.party c) s t
        → (K.answer c s ≡ K.answer c t) × Agree (K.party c) (K.after c s) (K.after c t)
    pub keeps : (c : K.Call) (s : K.State)
        → (K.sizes (K.after c s) ≡ K.sizes s)
        × ((i : ℕ) → K.holds (K.party c) i ≡ false → K.row (K.after c s) i ≡ K.row s i)

  -- the call is one of the list
  abbrev pub Has : K.Call → List K.Call → Type 0
  Has c [] = ⊥
  Has c (d ∷ ds) = (c ≡ d) ⊎ Has c ds

  -- R48. no two different parties of the list have a right on the same row
  abbrev pub Separate : List K.Call → Type 0
  Separate cs =
      (c d : K.Call) → Has c cs → Has d cs → (i : ℕ) → K.holds (K.party c) i ≡ true
      → K.holds (K.party d) i ≡ true → K.party c ≡ K.party d

  -- the calls of a list, one after the other: the state at the end
  unfoldable pub state_after : List K.Call → K.State → K.State
  state_after [] s = s
  state_after (c ∷ cs) s = state_after cs (K.after c s)

  -- and the answer of each call, in turn:
  -- the first by the state that there is,
  -- each later one by the state that those before it left
  unfoldable pub answers : List K.Call → K.State → List K.Reply
  answers [] s = []
  answers (c ∷ cs) s = K.answer c s ∷ answers cs (K.after c s)

  -- the answers of one party's calls
  unfoldable pub answers_of : ℕ → List K.Call → K.State → List K.Reply
  answers_of q [] s = []
  answers_of q (c ∷ cs) s =
      when eqb (K.party c) q then K.answer c s ∷ answers_of q cs (K.after c s)
      else answers_of q cs (K.after c s)

  -- one party's calls, in its own order
  unfoldable pub calls_of : ℕ → List K.Call → List K.Call
  calls_of q [] = []
  calls_of q (c ∷ cs) = when eqb (K.party c) q then c ∷ calls_of q cs else calls_of q cs

  -- a party's list replaced, the others kept
  abbrev pub replaced : (ℕ → List K.Call) → ℕ → List K.Call → ℕ → List K.Call
  replaced ls q l r = when eqb r q then l else ls r

  -- R47. a list is a merge of given lists, one for each party, that keeps each list's own order
  abbrev pub Merged : List K.Call → (ℕ → List K.Call) → Type 0
  Merged [] ls = (q : ℕ) → ls q ≡ []
  Merged (c ∷ cs) ls = (l : List K.Call) × (ls (K.party c) ≡ c ∷ l) × Merged cs (replaced ls (K.party c) l)
