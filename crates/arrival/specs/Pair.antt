-- What it is for a call to depend on, and to change, the rows that it names alone.
use Rattle.std.specs.Prelude.{ℕ, ◌≡◌, Bool, true, false}
use Rattle.arrival.specs.Calls.{Calls}

module _ (K : Calls) where
  -- a call's answer, and what it leaves on the rows that it names, depend on those rows alone; and
  -- it leaves the other rows as they were
  pub record Local (names : K.Call → ℕ → Bool) : Type 0 where
    pub sees : (c : K.Call) (s t : K.State) → K.sizes s ≡ K.sizes t
        → ((i : ℕ) → names c i ≡ true → K.row s i ≡ K.row t i)
        → (K.answer c s ≡ K.answer c t)
        × ((i : ℕ) → names c i ≡ true → K.row (K.after c s) i ≡ K.row (K.after c t) i)
    pub sized : (c : K.Call) (s : K.State) → K.sizes (K.after c s) ≡ K.sizes s
    pub keeps : (c : K.Call) (s : K.State) (i : ℕ) → names c i ≡ false
        → K.row (K.after c s) i ≡ K.row s i
