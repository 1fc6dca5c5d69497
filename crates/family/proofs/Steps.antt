-- The steps give exactly the declared parameters, in order, then done for ever; over a message that
-- the reader refuses, done from the first.
use Prim.Native.Nat.{ℕ, zero, suc, ◌+◌, ◌≤◌}
use mathlib.Core.Path.{◌≡◌, refl, sym, ap, subst}
use mathlib.Core.List.{List, [], ◌∷◌}
use mathlib.Core.Logic.{⊎_elim}
use native.Mathlib.Omega.{arith}
use borrow.Author.Tests.{lt-ltb, le-ltb}
use lib.ListN.{length}
use Rattle.std.specs.Prelude.{None}
use Rattle.octets.specs.Octet.{octet}
use Rattle.octets.specs.Answer.{refused}
use Rattle.parts.specs.declared.Parts.{Parts}
use Rattle.layout.proofs.Exactly.{run-params}
use Rattle.runs.specs.declared.Step.{Step}
use Rattle.runs.specs.declared.Step.TheVariants.{Param as Stands, Close, End, Pass}
use Rattle.runs.specs.Run.{step_at_lem}
use Rattle.runs.specs.Params.{Param, Params, Closes}
use Rattle.runs.proofs.Steps.{at-close, at-end, at-param}
use Rattle.family.specs.Family.{Family, read_in}
use Rattle.family.specs.Forms.{FamilyFormed}
use Rattle.family.specs.Steps.{offer_by, offer_at_lem, past_by, place_after_lem, steps_from, start_in, GivesAll}
use Rattle.family.proofs.Family.{read-exactly}

-- where a step says done, the place is kept
pub done-stays : (m : List ℕ) (i : ℕ) → offer_at_lem m i ≡ None → place_after_lem m i ≡ i
unfolding offer_at_lem place_after_lem
done-stays m i e = go (step_at_lem m i) e
  where
    go : (x : Step) → offer_by x ≡ None → past_by i x ≡ i
    go (Stands f) q = absurd (let z : ◌≡◌ {A = ℕ} 0 1 = cc in omega arith)
    go Close q = refl
    go End q = refl
    go Pass q = refl

-- so every later step says done
pub done-for-ever : (n : ℕ) (m : List ℕ) (i : ℕ) → offer_at_lem m i ≡ None → GivesAll m [] (steps_from n m i)
unfolding steps_from
done-for-ever zero m i e = tt
done-for-ever (suc n) m i e = (e, subst (λ (k : ℕ). GivesAll m [] (steps_from n m k)) (sym (done-stays m i e)) (done-for-ever n m i e))

-- past the message it is done
pub past-done : (m : List ℕ) (i : ℕ) → length m ≤ i → offer_at_lem m i ≡ None
unfolding offer_at_lem
past-done m i h = ap offer_by (at-end m i h)

-- at the closing 0 it is done
pub close-done : (m : List ℕ) (i : ℕ) → Closes m i → offer_at_lem m i ≡ None
unfolding offer_at_lem
close-done m i h = ap offer_by (at-close m i h)

-- from octet i on the steps give the parameters that stand there, up to the closing 0
pub steps-params : (n : ℕ) (m : List ℕ) (qs : List Param) (i z : ℕ) → Params m i qs z → Closes m z → GivesAll m qs (steps_from n m i)
unfolding steps_from offer_at_lem place_after_lem
steps-params zero m qs i z p e = tt
steps-params (suc n) m [] i z p e = done-for-ever (suc n) m i (close-done m i (subst (λ (k : ℕ). Closes m k) p e))
steps-params (suc n) m (q ∷ qs) i z p e =
    let x = p.1 in
    let s = at-param m i x.not-zero (subst (λ (k : ℕ). k ≤ length m) x.ends x.inside) in
    let k : i + 2 + octet m (i + 1) ≡ p.0 = sym x.ends in
    rw s ((sym x.named, sym x.holds), subst (λ (j : ℕ). GivesAll m qs (steps_from n m j)) (sym k) (steps-params n m qs p.0 z p.2 e))

module _ (F : Family) (m : List ℕ) where
  -- over a well-formed message: its declared parameters, name and contents, in order, then done,
  -- for every number of steps
  pub steps-exactly : (p : Parts) (f : FamilyFormed F m p) (n : ℕ) → GivesAll m f.params (steps_from n m (start_in F m))
  unfolding start_in
  steps-exactly p f n =
      rw ((read-exactly F m p).1 f)
      (⊎_elim
      (λ r. simp (lt-ltb _ _ r.0) (steps-params n m f.params p.optional.from p.optional.to r.1 r.2))
      (λ r. simp (le-ltb _ _ r.0) (rw r.1 (done-for-ever n m (length m) (past-done m (length m) (omega arith)))))
      (run-params m F.width f.shape p f.params f.laid))

  -- over a message that the reader refuses: done, for every number of steps
  pub refused-done : (k at n : ℕ) → read_in F m ≡ refused k at → GivesAll m [] (steps_from n m (start_in F m))
  unfolding start_in
  refused-done k at n e = rw e (done-for-ever n m (length m) (past-done m (length m) (omega arith)))
