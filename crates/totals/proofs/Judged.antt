-- The two refusals in the paper's order, what is accepted, and what it says.
use Prim.Native.Nat.{ℕ, ◌+◌, ◌-◌, ◌≤◌}
use mathlib.Core.Path.{◌≡◌, refl, sym, ◌∙◌, ap}
use mathlib.Core.Bool.{Bool, true, false}
use mathlib.Core.List.{List, [], ◌∷◌}
use mathlib.Core.Logic.{inl, inr, ⊎_elim}
use native.Mathlib.Omega.{arith}
use borrow.Author.Tests.{ltb-true, ltb-false, eqb-true, eqb-false}
use lib.Dec.{ltb, eqb}
use lib.ListN.{length}
use Rattle.octets.specs.Octet.{octet, AllOctets}
use Rattle.octets.specs.Choice.{when◌then◌else◌}
use Rattle.octets.specs.Answer.{Answer, accepted, refused}
use Rattle.octets.specs.Faults.{Fault, Judges, fault}
use Rattle.octets.specs.Filled.{Done, leaving}
use Rattle.octets.proofs.Answer.{refused-accepted, accepted-same, past-test}
use Rattle.octets.proofs.Choice.{true-false}
use Rattle.octets.proofs.Faults.{judges-done, judges-there, judges-absent, judges-if, judges-choice}
use Rattle.totals.specs.declared.Count.{Count}
use Rattle.totals.specs.Blocks.{busy_in, block_count_lem, AllRight, all_counted, sized_totals, rebuild_of, WrongSizes, rebuild_faults}
use Rattle.totals.specs.Question.{count_between_lem, busy_between_lem, busy_faults}
use Rattle.totals.proofs.Agree.{full-count, count_most, looked-most}
use Rattle.totals.proofs.Recounted.{recounted-right}

-- a rebuild by the test for 16
abbrev rebuilt_by : List ℕ → List ℕ → Bool → Done ℕ
rebuilt_by states totals t = when t then leaving (accepted 64) (all_counted states totals) else leaving (refused 16 0) totals

-- ---- 16
module _ (states totals : List ℕ) where
  sized-is : sized_totals states totals ≡ true → (length states ≡ 4096) × (length totals ≡ 64)
  sized-is e = go (eqb (length states) 4096) refl e
    where
      go : (t : Bool) → eqb (length states) 4096 ≡ t → (when t then eqb (length totals) 64 else false) ≡ true → (length states ≡ 4096) × (length totals ≡ 64)
      go true t h = (eqb-true _ _ t, eqb-true _ _ h)
      go false t h = absurd (true-false {t = false} h refl)

  sized-not : sized_totals states totals ≡ false → WrongSizes states totals
  sized-not e = go (eqb (length states) 4096) refl e
    where
      go : (t : Bool) → eqb (length states) 4096 ≡ t → (when t then eqb (length totals) 64 else false) ≡ false → WrongSizes states totals
      go true t h = inr (eqb-false _ _ h)
      go false t h = inl (eqb-false _ _ t)

  -- 16 is the first fault, and what is sized goes on
  sized-judges : {A : Type 0} {y : Answer A} (fs : List Fault) → (sized_totals states totals ≡ true → Judges y fs)
      → Judges (when sized_totals states totals then y else refused 16 0) (fault 16 0 (WrongSizes states totals) ∷ fs)
  sized-judges fs j =
      judges-choice (sized_totals states totals)
      (λ t. judges-absent _ (λ at h. (let s = sized-is t in ⊎_elim (λ n. n s.0) (λ n. n s.1) h.1)) (j t))
      (λ t. judges-there (fault 16 0 (WrongSizes states totals)) fs 0 (refl, sized-not t) (λ at h. h.0))

  -- ---- a rebuild
  rebuild-answer : (t : Bool) → (rebuilt_by states totals t).answer ≡ (when t then accepted 64 else refused 16 0)
  rebuild-answer true = refl
  rebuild-answer false = refl

  -- refused with 16 exactly where there are not 4096 states and 64 totals
  pub rebuild-judges : Judges (rebuild_of states totals).answer (rebuild_faults states totals)
  unfolding rebuild_of
  rebuild-judges = rw (rebuild-answer (sized_totals states totals)) (sized-judges [] (λ t. judges-done 64))

  -- whatever the table and the totals were, afterwards every total is right
  pub rebuild-right : (n : ℕ) → (rebuild_of states totals).answer ≡ accepted n → AllRight states (rebuild_of states totals).left
  unfolding rebuild_of
  rebuild-right n e k h = go (sized_totals states totals) refl e
    where
      go : (t : Bool) → sized_totals states totals ≡ t
          → (rebuilt_by states totals t).answer ≡ accepted n
          → octet (rebuilt_by states totals t).left k ≡ block_count_lem states k
      go true t p = recounted-right states _ _ totals k (omega arith) (omega arith) (omega (arith, (sized-is t).1))
      go false t p = absurd (refused-accepted p)

  -- a refusal keeps the totals
  pub rebuild-keeps : (n at : ℕ) → (rebuild_of states totals).answer ≡ refused n at → (rebuild_of states totals).left ≡ totals
  unfolding rebuild_of
  rebuild-keeps n at e = go (sized_totals states totals) e
    where
      go : (t : Bool)
          → (rebuilt_by states totals t).answer ≡ refused n at
          → (rebuilt_by states totals t).left ≡ totals
      go true p = absurd (refused-accepted (sym p))
      go false p = refl

  -- ---- a question about a to b
  module _ (a b : ℕ) where
    -- refused with the first of 16, 9, 18 that is there, and accepted exactly where there is none
    pub busy-judges : Judges (busy_between_lem states totals a b) (busy_faults states totals a b)
    unfolding busy_between_lem
    busy-judges =
        sized-judges _
        (λ t.
        judges-if (ltb 4095 b) (λ u. ltb-true 4095 b u) (λ u h. omega (arith, ltb-false 4095 b u, h))
        (λ u.
        judges-if (ltb b a) (λ v. ltb-true b a v) (λ v h. omega (arith, ltb-false b a v, h))
        (λ v. judges-done (count_between_lem states totals a b))))

    -- what is accepted
    pub busy-accepted : (c : Count) → busy_between_lem states totals a b ≡ accepted c → (a ≤ b) × (b ≤ 4095) × (count_between_lem states totals a b ≡ c)
    unfolding busy_between_lem
    busy-accepted c e = go (sized_totals states totals) e
      where
        go : (t : Bool) → (when t then (when ltb 4095 b then refused 9 0 else when ltb b a then refused 18 0 else accepted (count_between_lem states totals a b)) else refused 16 0) ≡ accepted c
            → (a ≤ b) × (b ≤ 4095) × (count_between_lem states totals a b ≡ c)
        go true h =
            let p = past-test 9 0 (ltb 4095 b) h in
            let q = past-test 18 0 (ltb b a) p.1 in
            (ltb-false b a q.0, ltb-false 4095 b p.0, accepted-same q.1)
        go false h = absurd (refused-accepted h)

    -- at most 188 numbers are looked at
    pub busy-looked : (c : Count) → busy_between_lem states totals a b ≡ accepted c → c.looked ≤ 188
    busy-looked c e = let w = busy-accepted c e in omega (arith, looked-most a b w.0 w.1, ap (λ (x : Count). x.looked) w.2)

    -- if every total is right, the count is the full count
    pub busy-right : (c : Count) → busy_between_lem states totals a b ≡ accepted c → AllRight states totals → c.count ≡ busy_in states a (b + 1 - a)
    busy-right c e r = let w = busy-accepted c e in sym (ap (λ (x : Count). x.count) w.2) ∙ full-count states totals a b w.0 w.1 r

    -- with octets as totals, as those of a lent slice are, right or wrong, the count is small
    pub busy-small : (c : Count) → busy_between_lem states totals a b ≡ accepted c → AllOctets totals → c.count ≤ 16320
    busy-small c e o = let w = busy-accepted c e in omega (arith, count_most states totals a b w.0 w.1 o, ap (λ (x : Count). x.count) w.2)
