-- Where no two parties of a list have a right on the same row, every party has the answers, and
-- every row the end, that it has where the other parties sent nothing.
use Prim.Native.Nat.{ℕ}
use mathlib.Core.Path.{◌≡◌, refl, sym, ◌∙◌, ap, subst}
use mathlib.Core.Bool.{Bool, true, false}
use mathlib.Core.List.{List, [], ◌∷◌, ◌++◌}
use mathlib.Core.Logic.{◌⊎◌, inl, inr, ⊎_elim}
use borrow.Author.Tests.{eq-eqb, ne_eqb, eqb-true, eqb-false}
use native.Mathlib.Omega.{arith}
use lib.Dec.{eqb}
use Rattle.octets.specs.Choice.{when◌then◌else◌}
use Rattle.octets.proofs.Choice.{decided}
use Rattle.arrival.specs.Calls.{Calls, Agree, Apart, Has, Separate, state_after, answers, answers_of, calls_of, replaced, Merged}

module _ (K : Calls) where
  -- ---- a party's calls
  pub own-has : (cs : List K.Call) (q : ℕ) (d : K.Call) → Has K d (calls_of K q cs) → Has K d cs × (K.party d ≡ q)
  unfolding calls_of
  own-has [] q d h = absurd h
  own-has (c ∷ cs) q d h = go (eqb (K.party c) q) refl (λ k. own-has cs q d k) h
    where
      go : (b : Bool) → eqb (K.party c) q ≡ b → (Has K d (calls_of K q cs) → Has K d cs × (K.party d ≡ q)) → Has K d (when b then c ∷ calls_of K q cs else calls_of K q cs) → Has K d (c ∷ cs) × (K.party d ≡ q)
      go true e ih k = ⊎_elim (λ z. (inl z, ap K.party z ∙ eqb-true _ _ e)) (λ z. let r = ih z in (inr r.0, r.1)) k
      go false e ih k = let r = ih k in (inr r.0, r.1)

  has-own : (cs : List K.Call) (d : K.Call) → Has K d cs → Has K d (calls_of K (K.party d) cs)
  unfolding calls_of
  has-own [] d h = absurd h
  has-own (c ∷ cs) d h = go (eqb (K.party c) (K.party d)) refl (λ k. has-own cs d k) h
    where
      go : (b : Bool) → eqb (K.party c) (K.party d) ≡ b → (Has K d cs → Has K d (calls_of K (K.party d) cs)) → Has K d (c ∷ cs) → Has K d (when b then c ∷ calls_of K (K.party d) cs else calls_of K (K.party d) cs)
      go true e ih k = ⊎_elim (λ z. inl z) (λ z. inr (ih z)) k
      go false e ih k = ⊎_elim (λ z. absurd (eqb-false _ _ e (ap K.party (sym z)))) ih k

  none_answers : (cs : List K.Call) (q : ℕ) (s : K.State) → calls_of K q cs ≡ [] → answers_of K q cs s ≡ []
  unfolding calls_of answers_of
  none_answers [] q s e = refl
  none_answers (c ∷ cs) q s e = go (eqb (K.party c) q) (λ k. none_answers cs q (K.after c s) k) e
    where
      go : (b : Bool) → (calls_of K q cs ≡ [] → answers_of K q cs (K.after c s) ≡ []) → (when b then c ∷ calls_of K q cs else calls_of K q cs) ≡ [] → (when b then K.answer c s ∷ answers_of K q cs (K.after c s) else answers_of K q cs (K.after c s)) ≡ []
      go true ih k = let z : ◌≡◌ {A = ℕ} 0 1 = cc in absurd (omega arith)
      go false ih k = ih k

  -- a merge has each party's calls in that party's order
  pub merged-calls : (cs : List K.Call) (ls : ℕ → List K.Call) → Merged K cs ls → (q : ℕ) → calls_of K q cs ≡ ls q
  unfolding calls_of
  merged-calls [] ls m q = sym (m q)
  merged-calls (c ∷ cs) ls m q = go (eqb (K.party c) q) refl (merged-calls cs (replaced K ls (K.party c) m.0) m.2 q)
    where
      go : (b : Bool) → eqb (K.party c) q ≡ b → calls_of K q cs ≡ replaced K ls (K.party c) m.0 q → (when b then c ∷ calls_of K q cs else calls_of K q cs) ≡ ls q
      go true e h =
          let p : K.party c ≡ q = eqb-true _ _ e in
          let r : calls_of K q cs ≡ m.0 = h ∙ simp (eq-eqb _ _ (sym p)) in
          ap (λ (l : List K.Call). c ∷ l) r ∙ sym m.1 ∙ ap ls p
      go false e h = h ∙ simp (ne_eqb q (K.party c) (λ y. eqb-false _ _ e (sym y)))

  -- and any list is a merge of its parties' calls, so that there are merges to speak of
  pub merged-so : (cs : List K.Call) (ls : ℕ → List K.Call) → ((q : ℕ) → calls_of K q cs ≡ ls q) → Merged K cs ls
  unfolding calls_of
  merged-so [] ls h = λ q. sym (h q)
  merged-so (c ∷ cs) ls h = (
    calls_of K (K.party c) cs,
    sym (h (K.party c)) ∙ rw (eq-eqb (K.party c) (K.party c) refl) refl,
    merged-so cs (replaced K ls (K.party c) (calls_of K (K.party c) cs)) (λ q. go q (eqb q (K.party c)) refl),
  )
    where
      go : (q : ℕ) (b : Bool) → eqb q (K.party c) ≡ b → calls_of K q cs ≡ (when b then calls_of K (K.party c) cs else ls q)
      go q true e = ap (λ (p : ℕ). calls_of K p cs) (eqb-true _ _ e)
      go q false e =
          let g : (when eqb (K.party c) q then c ∷ calls_of K q cs else calls_of K q cs) ≡ ls q = h q in
          rw (ne_eqb (K.party c) q (λ y. eqb-false _ _ e (sym y))) at g

  -- two merges of the same lists have the same calls
  merges-have : (cs ds : List K.Call) (ls : ℕ → List K.Call) → Merged K cs ls → Merged K ds ls → (c : K.Call) → Has K c ds → Has K c cs
  merges-have cs ds ls m n c h =
      (own-has cs (K.party c) c
      (subst (λ (l : List K.Call). Has K c l) (merged-calls ds ls n (K.party c) ∙ sym (merged-calls cs ls m (K.party c))) (has-own ds c h))).0

  pub merges-separate : (cs ds : List K.Call) (ls : ℕ → List K.Call) → Merged K cs ls → Merged K ds ls → Separate K cs → Separate K ds
  merges-separate cs ds ls m n z = λ c d h k. z c d (merges-have cs ds ls m n c h) (merges-have cs ds ls m n d k)

  -- ---- the rules at every call
  pub state-so-far : (cs : List K.Call) (c : K.Call) (s : K.State) → state_after K (cs ++ (c ∷ [])) s ≡ K.after c (state_after K cs s)
  unfolding state_after
  state-so-far [] c s = refl
  state-so-far (b ∷ cs) c s = state-so-far cs c (K.after b s)

  pub answer-so-far : (cs ds : List K.Call) (c : K.Call) (s : K.State) → answers K (cs ++ (c ∷ ds)) s ≡ answers K cs s ++ (K.answer c (state_after K cs s) ∷ answers K ds (K.after c (state_after K cs s)))
  unfolding answers state_after
  answer-so-far [] ds c s = refl
  answer-so-far (b ∷ cs) ds c s = ap (λ (l : List K.Reply). K.answer b s ∷ l) (answer-so-far cs ds c (K.after b s))

  module _ (A : Apart K) where
    pub sizes-stay : (cs : List K.Call) (s : K.State) → K.sizes (state_after K cs s) ≡ K.sizes s
    unfolding state_after
    sizes-stay [] s = refl
    sizes-stay (c ∷ cs) s = sizes-stay cs (K.after c s) ∙ (A.keeps c s).0

    -- every call of another party leaves the rows of q alone
    abbrev Strange : ℕ → List K.Call → Type 0
    Strange q cs = (c : K.Call) → Has K c cs → (K.party c ≡ q → ⊥) → (i : ℕ) → K.holds q i ≡ true → K.holds (K.party c) i ≡ false

    strangers : (cs : List K.Call) → Separate K cs → (q : ℕ) (d : K.Call) → Has K d cs → K.party d ≡ q → Strange q cs
    strangers cs z q d h e = λ c k n i t.
        ⊎_elim
        (λ y. absurd (n (z c d k h i y (subst (λ (p : ℕ). K.holds p i ≡ true) (sym e) t) ∙ e)))
        (λ y. y)
        (decided (K.holds (K.party c) i))

    own : (q : ℕ) (c : K.Call) (s t : K.State) → K.party c ≡ q → Agree K q s t → (K.answer c s ≡ K.answer c t) × Agree K q (K.after c s) (K.after c t)
    own q c s t e a =
        let y = A.sees c s t (subst (λ (p : ℕ). Agree K p s t) (sym e) a) in
        (y.0, subst (λ (p : ℕ). Agree K p (K.after c s) (K.after c t)) e y.1)

    isolated : (cs : List K.Call) (q : ℕ) → Strange q cs → (s t : K.State) → Agree K q s t
        → (answers_of K q cs s ≡ answers K (calls_of K q cs) t) × Agree K q (state_after K cs s) (state_after K (calls_of K q cs) t)
    unfolding answers_of answers calls_of state_after
    isolated [] q z s t a = (refl, a)
    isolated (c ∷ cs) q z s t a =
        go (eqb (K.party c) q) refl (λ s t. isolated cs q (λ d h. z d (inr h)) s t)
      where
        go : (b : Bool) → eqb (K.party c) q ≡ b → ((s t : K.State) → Agree K q s t → (answers_of K q cs s ≡ answers K (calls_of K q cs) t) × Agree K q (state_after K cs s) (state_after K (calls_of K q cs) t))
            → ((when b then K.answer c s ∷ answers_of K q cs (K.after c s) else answers_of K q cs (K.after c s)) ≡ answers K (when b then c ∷ calls_of K q cs else calls_of K q cs) t)
            × Agree K q (state_after K cs (K.after c s)) (state_after K (when b then c ∷ calls_of K q cs else calls_of K q cs) t)
        go true e ih =
            let y = own q c s t (eqb-true _ _ e) a in
            let r = ih (K.after c s) (K.after c t) y.1 in
            ((λ i. y.0 i ∷ r.0 i), r.1)
        go false e ih =
            let k = A.keeps c s in
            ih (K.after c s) t (k.0 ∙ a.0, λ i h. k.1 i (z c (inl refl) (eqb-false _ _ e) i h) ∙ a.1 i h)

    -- for every list whose parties share no row, and every party: its answers are
    -- those of the run of its own calls alone
    pub own-answers : (cs : List K.Call) → Separate K cs → (q : ℕ) (s : K.State) → answers_of K q cs s ≡ answers K (calls_of K q cs) s
    unfolding answers
    own-answers cs z q s = go (calls_of K q cs) refl
      where
        go : (l : List K.Call) → calls_of K q cs ≡ l → answers_of K q cs s ≡ answers K (calls_of K q cs) s
        go [] e = none_answers cs q s e ∙ sym (ap (λ (l : List K.Call). answers K l s) e)
        go (d ∷ l) e =
            let h = own-has cs q d (subst (λ (x : List K.Call). Has K d x) (sym e) (inl refl)) in
            (isolated cs q (strangers cs z q d h.0 h.1) s s (refl, λ i t. refl)).0

    -- a row on which a party of the list has a right ends as in the run of that party's calls alone
    pub own-rows : (cs : List K.Call) → Separate K cs → (d : K.Call) → Has K d cs → (i : ℕ) → K.holds (K.party d) i ≡ true → (s : K.State) → K.row (state_after K cs s) i ≡ K.row (state_after K (calls_of K (K.party d) cs) s) i
    own-rows cs z d h i t s = (isolated cs (K.party d) (strangers cs z (K.party d) d h refl) s s (refl, λ i t. refl)).1.1 i t

    -- a row on which none of them has a right stays
    pub others-stay : (cs : List K.Call) (i : ℕ) → ((d : K.Call) → Has K d cs → K.holds (K.party d) i ≡ false) → (s : K.State) → K.row (state_after K cs s) i ≡ K.row s i
    unfolding state_after
    others-stay [] i n s = refl
    others-stay (c ∷ cs) i n s = others-stay cs i (λ d h. n d (inr h)) (K.after c s) ∙ (A.keeps c s).1 i (n c (inl refl))

    -- some party of the list has a right on the row, or none has
    pub some : (cs : List K.Call) (i : ℕ) → ((d : K.Call) × Has K d cs × (K.holds (K.party d) i ≡ true)) ⊎ ((d : K.Call) → Has K d cs → K.holds (K.party d) i ≡ false)
    some [] i = inr (λ d h. absurd h)
    some (c ∷ cs) i =
        ⊎_elim
        (λ t. inl (c, inl refl, t))
        (λ t.
        ⊎_elim
        (λ w. inl (w.0, inr w.1, w.2))
        (λ n. inr (λ d h. ⊎_elim (λ e. ap (λ (x : K.Call). K.holds (K.party x) i) e ∙ t) (λ k. n d k) h))
        (some cs i))
        (decided (K.holds (K.party c) i))

    module _ (cs ds : List K.Call) (ls : ℕ → List K.Call) (m : Merged K cs ls) (n : Merged K ds ls) (z : Separate K cs) (s : K.State) where
      same-calls : (q : ℕ) → calls_of K q cs ≡ calls_of K q ds
      same-calls q = merged-calls cs ls m q ∙ sym (merged-calls ds ls n q)

      -- any two merges of the same lists give each party the same answers, call by call
      pub merges-answer-alike : (q : ℕ) → answers_of K q cs s ≡ answers_of K q ds s
      merges-answer-alike q = own-answers cs z q s ∙ ap (λ (l : List K.Call). answers K l s) (same-calls q) ∙ sym (own-answers ds (merges-separate cs ds ls m n z) q s)

      -- and end in the same rows
      pub merges-end-alike : (i : ℕ) → K.row (state_after K cs s) i ≡ K.row (state_after K ds s) i
      merges-end-alike i =
          ⊎_elim
          (λ w.
          own-rows cs z w.0 w.1 i w.2 s
          ∙ ap (λ (l : List K.Call). K.row (state_after K l s) i) (same-calls (K.party w.0))
          ∙ sym (own-rows ds (merges-separate cs ds ls m n z) w.0 (merges-have ds cs ls n m w.0 w.1) i w.2 s))
          (λ w. others-stay cs i w s ∙ sym (others-stay ds i (λ d h. w d (merges-have cs ds ls m n d h)) s))
          (some cs i)

      pub merges-size-alike : K.sizes (state_after K cs s) ≡ K.sizes (state_after K ds s)
      merges-size-alike = sizes-stay cs s ∙ sym (sizes-stay ds s)

    -- as if the others had sent nothing: a merge answers a party as its own list alone does
    pub merge-answers-alone : (cs : List K.Call) (ls : ℕ → List K.Call) → Merged K cs ls → Separate K cs → (s : K.State) (q : ℕ) → answers_of K q cs s ≡ answers K (ls q) s
    merge-answers-alone cs ls m z s q = own-answers cs z q s ∙ ap (λ (l : List K.Call). answers K l s) (merged-calls cs ls m q)
