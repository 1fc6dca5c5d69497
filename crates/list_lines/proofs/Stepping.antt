-- One turn of the loop that shows the steps, and where it stops.
use Rattle.std.specs.Prelude.{Option, Some, None}
use Prim.Native.Nat.{ℕ, zero, suc, ◌+◌, ◌≤◌}
use mathlib.Core.Path.{◌≡◌, refl, sym, ◌∙◌, ap}
use mathlib.Core.List.{List, [], ◌∷◌}
use native.Mathlib.Omega.{arith}
use lib.ListN.{length}
use Rattle.octets.specs.Answer.{Answer, accepted, refused}
use Rattle.runs.specs.declared.Field.{Field}
use Rattle.runs.specs.declared.Step.{Step}
use Rattle.runs.specs.declared.Step.TheVariants.{Param as Stands, Close, End, Pass}
use Rattle.runs.specs.Run.{step_at_lem}
use Rattle.runs.proofs.Steps.{step-says}
use Rattle.parts.specs.declared.Parts.{Parts}
use Rattle.family.specs.Family.{Family, read_in}
use Rattle.family.specs.Steps.{offer_by, offer_at_lem, past_by, place_after_lem, steps_from, start_in, GivesAll}
use Rattle.family.proofs.Steps.{done-for-ever}
use Rattle.cursor.specs.Start.{refusal_by}
use Rattle.printing.specs.Sheet.{Sheet, pour}
use Rattle.printing.proofs.Pours.{pour-append}
use Rattle.list_lines.specs.Lists.{offer_text, steps_text, list_by, list_in}
use Rattle.list_lines.specs.Inside.{begun_line}

-- a parameter that a step gives at octet i: the next place is past it, and
-- it ends inside the message
pub record Given (m : List ℕ) (i : ℕ) (f : Field) : Type 0 where
  pub past : place_after_lem m i ≡ f.at + f.len
  pub starts : f.at ≡ i + 2
  pub inside : f.at + f.len ≤ length m

pub offered : (m : List ℕ) (i : ℕ) (f : Field) → offer_at_lem m i ≡ Some f → Given m i f
unfolding offer_at_lem place_after_lem
offered m i f e = go (step_at_lem m i) refl e
  where
    go : (x : Step) → step_at_lem m i ≡ x → offer_by x ≡ Some f → Given m i f
    go (Stands g) s q =
        let same : g ≡ f = cc in
        let x = step-says m i (Stands g) s in
        let at : g.at ≡ f.at = ap (λ (h : Field). h.at) same in
        let len : g.len ≡ f.len = ap (λ (h : Field). h.len) same in
        record { past = ap (past_by i) s ∙ (λ j. at j + len j); starts = sym at ∙ x.at; inside = omega (arith, x.inside, at, len) }
    go Close s q = absurd cc
    go End s q = absurd cc
    go Pass s q = absurd cc

-- answers that are all done show nothing
pub nothing-shown : (m : List ℕ) (gs : List (Option Field)) → GivesAll m [] gs → steps_text m gs ≡ []
unfolding steps_text
nothing-shown m [] h = refl
nothing-shown m (g ∷ gs) h = rw (h.0, nothing-shown m gs h.1) refl

-- once a step says done, there is nothing more to show
pub text-done : (k : ℕ) (m : List ℕ) (i : ℕ) (s : Sheet) → offer_at_lem m i ≡ None → pour s (steps_text m (steps_from k m i)) ≡ s
unfolding pour
text-done k m i s e = rw (nothing-shown m (steps_from k m i) (done-for-ever k m i e)) refl

-- a parameter is shown, and then the rest, with enough steps left
pub text-more : (k : ℕ) (m : List ℕ) (i : ℕ) (f : Field) (s t : Sheet) → length m ≤ k + i → offer_at_lem m i ≡ Some f → t ≡ pour s (offer_text m (Some f))
    → (j : ℕ) × (length m ≤ j + (f.at + f.len)) × (pour t (steps_text m (steps_from j m (f.at + f.len))) ≡ pour s (steps_text m (steps_from k m i)))
unfolding steps_from steps_text
text-more zero m i f s t h e p = let x = offered m i f e in absurd (omega (arith, x.starts, x.inside))
text-more (suc k) m i f s t h e p =
    let x = offered m i f e in
    (k, omega (arith, x.starts), rw (e, x.past, p) (sym (pour-append s (offer_text m (Some f)) (steps_text m (steps_from k m (f.at + f.len))))))

-- the line by the start's refusal and place is the message's
pub begun-line : (F : Family) (m : List ℕ) → begun_line m (refusal_by (read_in F m)) (start_in F m) ≡ list_in F m
unfolding list_in
begun-line F m = go (read_in F m)
  where
    go : (x : Answer Parts) → begun_line m (refusal_by x) (start_in F m) ≡ list_by m (start_in F m) x
    go (accepted p) = refl
    go (refused n at) = refl
