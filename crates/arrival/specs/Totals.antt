-- Totals over rows that parties share: what a total should be by the rows, and which calls set it.
use Rattle.std.specs.Prelude.{ℕ, ◌≡◌, Bool, true, false, List, [], ◌∷◌}
use Rattle.octets.specs.Choice.{when◌then◌else◌}
use Rattle.arrival.specs.Calls.{Calls}

module _ (K : Calls) where
  -- total k, what it should be by the rows, and whether a call with that answer sets it
  pub record Totals : Type 0 where
    pub total : K.State → ℕ → ℕ
    pub count : K.State → ℕ → ℕ
    pub sets : K.Call → K.Reply → ℕ → Bool
    pub counted : (c : K.Call) (s : K.State) (k : ℕ) → sets c (K.answer c s) k ≡ true
        → total (K.after c s) k ≡ count (K.after c s) k
    pub counts : (s t : K.State) → ((i : ℕ) → K.row s i ≡ K.row t i) → (k : ℕ)
        → count s k ≡ count t k
    pub stays : (c : K.Call) (s : K.State) (k : ℕ) → sets c (K.answer c s) k ≡ false
        → (total (K.after c s) k ≡ total s k) × (count (K.after c s) k ≡ count s k)

  module _ (T : Totals) where
    -- whether some call of the run sets total k
    unfoldable pub touched : List K.Call → K.State → ℕ → Bool
    touched [] s k = false
    touched (c ∷ cs) s k = when T.sets c (K.answer c s) k then true else touched cs (K.after c s) k

    -- the same by the calls and their answers
    unfoldable pub touching : List K.Call → List K.Reply → ℕ → Bool
    touching [] rs k = false
    touching (c ∷ cs) [] k = false
    touching (c ∷ cs) (r ∷ rs) k = when T.sets c r k then true else touching cs rs k
