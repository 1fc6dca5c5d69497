-- Totals over rows that parties share: what a total is at the end depends on the rows at the end,
-- and on whether a call that was answered so sets it.
use Prim.Native.Nat.{ℕ}
use mathlib.Core.Path.{◌≡◌, refl, sym, ◌∙◌}
use mathlib.Core.Bool.{Bool, true, false}
use mathlib.Core.List.{List, [], ◌∷◌}
use mathlib.Core.Logic.{⊎_elim}
use borrow.Author.Tests.{eq-eqb}
use lib.Dec.{eqb}
use Rattle.octets.specs.Choice.{when◌then◌else◌}
use Rattle.arrival.specs.Calls.{Calls, Apart, Separate, state_after, answers_of, calls_of, Merged}
use Rattle.arrival.specs.Totals.{Totals, touched, touching}
use Rattle.octets.proofs.Choice.{true-false, decided}
use Rattle.arrival.proofs.Isolation.{merges-answer-alike, merges-end-alike, merged-calls}

module _ (K : Calls) where
  module _ (T : Totals K) where
    untouched : (cs : List K.Call) (s : K.State) (k : ℕ) → touched K T cs s k ≡ false → (T.total (state_after K cs s) k ≡ T.total s k) × (T.count (state_after K cs s) k ≡ T.count s k)
    unfolding touched state_after
    untouched [] s k e = (refl, refl)
    untouched (c ∷ cs) s k e = go (T.sets c (K.answer c s) k) refl (λ h. untouched cs (K.after c s) k h) e
      where
        go : (b : Bool) → T.sets c (K.answer c s) k ≡ b → (touched K T cs (K.after c s) k ≡ false → (T.total (state_after K cs (K.after c s)) k ≡ T.total (K.after c s) k) × (T.count (state_after K cs (K.after c s)) k ≡ T.count (K.after c s) k))
            → (when b then true else touched K T cs (K.after c s) k) ≡ false → (T.total (state_after K cs (K.after c s)) k ≡ T.total s k) × (T.count (state_after K cs (K.after c s)) k ≡ T.count s k)
        go true x ih h = absurd (true-false {t = true} refl h)
        go false x ih h = let r = ih h in let y = T.stays c s k x in (r.0 ∙ y.0, r.1 ∙ y.1)

    -- a total that was set ends as the count of the rows at the end; any other stays
    pub settled : (cs : List K.Call) (s : K.State) (k : ℕ) → T.total (state_after K cs s) k ≡ (when touched K T cs s k then T.count (state_after K cs s) k else T.total s k)
    unfolding touched state_after
    settled [] s k = refl
    settled (c ∷ cs) s k = go (T.sets c (K.answer c s) k) refl (touched K T cs (K.after c s) k) refl (settled cs (K.after c s) k)
      where
        go : (b : Bool) → T.sets c (K.answer c s) k ≡ b → (d : Bool) → touched K T cs (K.after c s) k ≡ d
            → T.total (state_after K cs (K.after c s)) k ≡ (when d then T.count (state_after K cs (K.after c s)) k else T.total (K.after c s) k)
            → T.total (state_after K cs (K.after c s)) k ≡ (when (when b then true else d) then T.count (state_after K cs (K.after c s)) k else T.total s k)
        go true x true y ih = ih
        go true x false y ih = ih ∙ T.counted c s k x ∙ sym (untouched cs (K.after c s) k y).1
        go false x true y ih = ih
        go false x false y ih = ih ∙ (T.stays c s k x).0

    -- ---- whether a total is set does not depend on the merge
    further : (c : K.Call) (a : K.Reply) (X : List K.Call) (Y : List K.Reply) (k : ℕ) (b : Bool) → T.sets c a k ≡ false → touching K T X Y k ≡ true → touching K T (when b then c ∷ X else X) (when b then a ∷ Y else Y) k ≡ true
    unfolding touching
    further c a X Y k true x h = rw x h
    further c a X Y k false x h = h

    here : (c : K.Call) (a : K.Reply) (X : List K.Call) (Y : List K.Reply) (k : ℕ) (b : Bool) → b ≡ true → T.sets c a k ≡ true → touching K T (when b then c ∷ X else X) (when b then a ∷ Y else Y) k ≡ true
    unfolding touching
    here c a X Y k b e x = rw (e, x)

    some-touches : (cs : List K.Call) (s : K.State) (k : ℕ) → touched K T cs s k ≡ true → (q : ℕ) × (touching K T (calls_of K q cs) (answers_of K q cs s) k ≡ true)
    unfolding touched calls_of answers_of
    some-touches [] s k e = absurd (true-false {t = false} e refl)
    some-touches (c ∷ cs) s k e = go (T.sets c (K.answer c s) k) refl (λ h. some-touches cs (K.after c s) k h) e
      where
        go : (b : Bool) → T.sets c (K.answer c s) k ≡ b → (touched K T cs (K.after c s) k ≡ true → (q : ℕ) × (touching K T (calls_of K q cs) (answers_of K q cs (K.after c s)) k ≡ true))
            → (when b then true else touched K T cs (K.after c s) k) ≡ true
            → (q : ℕ) × (touching K T (when eqb (K.party c) q then c ∷ calls_of K q cs else calls_of K q cs) (when eqb (K.party c) q then K.answer c s ∷ answers_of K q cs (K.after c s) else answers_of K q cs (K.after c s)) k ≡ true)
        go true x ih h = (K.party c, here c (K.answer c s) (calls_of K (K.party c) cs) (answers_of K (K.party c) cs (K.after c s)) k (eqb (K.party c) (K.party c)) (eq-eqb (K.party c) (K.party c) refl) x)
        go false x ih h = let r = ih h in (r.0, further c (K.answer c s) (calls_of K r.0 cs) (answers_of K r.0 cs (K.after c s)) k (eqb (K.party c) r.0) x r.1)

    touches-some : (cs : List K.Call) (s : K.State) (k q : ℕ) → touching K T (calls_of K q cs) (answers_of K q cs s) k ≡ true → touched K T cs s k ≡ true
    unfolding touched touching calls_of answers_of
    touches-some [] s k q e = absurd (true-false {t = false} e refl)
    touches-some (c ∷ cs) s k q e = go (eqb (K.party c) q) (T.sets c (K.answer c s) k) refl (λ h. touches-some cs (K.after c s) k q h) e
      where
        go : (b d : Bool) → T.sets c (K.answer c s) k ≡ d → (touching K T (calls_of K q cs) (answers_of K q cs (K.after c s)) k ≡ true → touched K T cs (K.after c s) k ≡ true)
            → touching K T (when b then c ∷ calls_of K q cs else calls_of K q cs) (when b then K.answer c s ∷ answers_of K q cs (K.after c s) else answers_of K q cs (K.after c s)) k ≡ true
            → (when d then true else touched K T cs (K.after c s) k) ≡ true
        go b true x ih h = refl
        go true false x ih h = ih (rw x at h)
        go false false x ih h = ih h

    module _ (A : Apart K) (cs ds : List K.Call) (ls : ℕ → List K.Call) (m : Merged K cs ls) (n : Merged K ds ls) (z : Separate K cs) (s : K.State) where
      over : (k q : ℕ) → touching K T (calls_of K q cs) (answers_of K q cs s) k ≡ touching K T (calls_of K q ds) (answers_of K q ds s) k
      over k q =
          let p : calls_of K q cs ≡ calls_of K q ds = merged-calls K cs ls m q ∙ sym (merged-calls K ds ls n q) in
          let r = merges-answer-alike K A cs ds ls m n z s q in
          λ i. touching K T (p i) (r i) k

      pub merges-touch-alike : (k : ℕ) → touched K T cs s k ≡ touched K T ds s k
      merges-touch-alike k =
          ⊎_elim
          (λ t. let w = some-touches cs s k t in t ∙ sym (touches-some ds s k w.0 (sym (over k w.0) ∙ w.1)))
          (λ t.
          ⊎_elim
          (λ u. let w = some-touches ds s k u in absurd (true-false (touches-some cs s k w.0 (over k w.0 ∙ w.1)) t))
          (λ u. t ∙ sym u)
          (decided (touched K T ds s k)))
          (decided (touched K T cs s k))

      -- any two merges of the same lists end in the same totals, whatever the totals were before
      pub merges-total-alike : (k : ℕ) → T.total (state_after K cs s) k ≡ T.total (state_after K ds s) k
      merges-total-alike k =
          settled cs s k
          ∙ (let t = merges-touch-alike k in let c = T.counts (state_after K cs s) (state_after K ds s) (merges-end-alike K A cs ds ls m n z s) k in λ i. when t i then c i else T.total s k)
          ∙ sym (settled ds s k)
