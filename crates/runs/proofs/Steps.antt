-- What a step and a run of steps do, from the facts and not the tests. Each holds at any bound on
-- the steps that is enough, so no proof compares two bounds.
use Rattle.std.specs.Prelude.{Some, None}
use Prim.Native.Nat.{ℕ, zero, suc, ◌+◌, ◌≤◌, ◌<◌}
use mathlib.Core.Path.{◌≡◌, refl}
use mathlib.Core.List.{List}
use mathlib.Core.Logic.{⊎_elim}
use native.Mathlib.Omega.{arith}
use borrow.Author.Tests.{lt-ltb, le-ltb, le-leb, lt-leb, eq-eqb, ne_eqb, leb-true, leb-false, ltb-true, ltb-false, eqb-true, eqb-false}
use lib.Dec.{leb, ltb, eqb}
use lib.ListN.{length}
use Rattle.octets.specs.Octet.{octet}
use Rattle.octets.proofs.Choice.{chosen}
use Rattle.runs.specs.declared.Field.{Field}
use Rattle.runs.specs.declared.Step.{Step}
use Rattle.runs.specs.declared.Step.TheVariants.{Param, Close, End, Pass}
use Rattle.runs.specs.declared.Stop.TheVariants.{Closed, Ended, Passed}
use Rattle.runs.specs.Run.{next, step_at_lem, stops, seeks}
use Rattle.runs.specs.Params.{Closes, Passes}

-- a parameter, as a step hands it out
pub record FieldAt (m : List ℕ) (i : ℕ) (f : Field) : Type 0 where
  pub name : f.name ≡ octet m i
  pub at : f.at ≡ i + 2
  pub len : f.len ≡ octet m (i + 1)
  pub not-zero : octet m i ≡ 0 → ⊥
  pub inside : f.at + f.len ≤ length m

-- what a step says of the octets
abbrev pub Stepped : List ℕ → ℕ → Step → Type 0
Stepped m i (Param f) = FieldAt m i f
Stepped m i Close = Closes m i
Stepped m i End = length m ≤ i
Stepped m i Pass = Passes m i

pub step-says : (m : List ℕ) (i : ℕ) (x : Step) → step_at_lem m i ≡ x → Stepped m i x
unfolding step_at_lem
step-says m i x h =
    ⊎_elim (λ t. rw (← t.1) (leb-true _ _ t.0))
    (λ a. ⊎_elim (λ t. rw (← t.1) (leb-false _ _ a.0, eqb-true _ _ t.0))
    (λ b. ⊎_elim (λ t. rw (← t.1) (leb-false _ _ a.0, eqb-false _ _ b.0, ltb-true _ _ t.0))
    (λ d.
    let l : next m i ≤ length m = ltb-false _ _ d.0 in
    rw (← d.1) (record { name = refl; at = refl; len = refl; not-zero = eqb-false _ _ b.0; inside = omega arith }))
    (chosen (ltb (length m) (next m i)) b.1))
    (chosen (eqb (octet m i) 0) a.1))
    (chosen (leb (length m) i) h)

-- the other way: the step from the facts
pub at-close : (m : List ℕ) (i : ℕ) → Closes m i → step_at_lem m i ≡ Close
unfolding step_at_lem
at-close m i h = simp (lt-leb _ _ h.0, eq-eqb _ _ h.1)

pub at-end : (m : List ℕ) (i : ℕ) → length m ≤ i → step_at_lem m i ≡ End
unfolding step_at_lem
at-end m i h = simp (le-leb _ _ h)

pub at-pass : (m : List ℕ) (i : ℕ) → Passes m i → step_at_lem m i ≡ Pass
unfolding step_at_lem
at-pass m i h = simp (lt-leb _ _ h.0, ne_eqb _ _ h.1, lt-ltb _ _ h.2)

pub at-param : (m : List ℕ) (i : ℕ) → (octet m i ≡ 0 → ⊥) → next m i ≤ length m → step_at_lem m i ≡ Param (record { name = octet m i; at = i + 2; len = octet m (i + 1) })
unfolding step_at_lem
at-param m i z l = let h : i < length m = omega arith in simp (lt-leb _ _ h, ne_eqb _ _ z, le-ltb _ _ l)

module _ (m : List ℕ) (i : ℕ) where
  -- enough steps from i leave enough from the next name
  pub stops-more : (k : ℕ) (f : Field) → length m < i + k → step_at_lem m i ≡ Param f → (j : ℕ) × (length m < f.at + f.len + j) × (stops k m i ≡ stops j m (f.at + f.len))
  unfolding stops
  stops-more zero f n h = let x = step-says m i _ h in absurd (omega arith)
  stops-more (suc k) f n h = let x = step-says m i _ h in (k, omega arith, rw h)

  pub stops-close : (k : ℕ) → step_at_lem m i ≡ Close → length m < i + k → stops k m i ≡ Closed i
  unfolding stops
  stops-close zero h l = let x = step-says m i _ h in absurd (omega (arith, x.0))
  stops-close (suc k) h l = rw h

  pub stops_end : (k : ℕ) → step_at_lem m i ≡ End → stops k m i ≡ Ended i
  unfolding stops
  stops_end zero h = refl
  stops_end (suc k) h = rw h

  pub stops-pass : (k : ℕ) → step_at_lem m i ≡ Pass → length m < i + k → stops k m i ≡ Passed i
  unfolding stops
  stops-pass zero h l = let x = step-says m i _ h in absurd (omega (arith, x.0))
  stops-pass (suc k) h l = rw h

  -- the same of the search for a name
  pub seeks-more : (k name : ℕ) (f : Field) → length m < i + k → step_at_lem m i ≡ Param f → (f.name ≡ name → ⊥) → (j : ℕ) × (length m < f.at + f.len + j) × (seeks k m name i ≡ seeks j m name (f.at + f.len))
  unfolding seeks
  seeks-more zero name f n h d = let x = step-says m i _ h in absurd (omega arith)
  seeks-more (suc k) name f n h d = let x = step-says m i _ h in (k, omega arith, rw (h, ne_eqb _ _ d))

  pub seeks-here : (k name : ℕ) (f : Field) → length m < i + k → step_at_lem m i ≡ Param f → f.name ≡ name → seeks k m name i ≡ Some (f.at, f.len)
  unfolding seeks
  seeks-here zero name f n h d = let x = step-says m i _ h in absurd (omega arith)
  seeks-here (suc k) name f n h d = rw (h, eq-eqb _ _ d)

  -- at anything but a parameter the search is over
  abbrev pub Over : Step → Type 0
  Over (Param f) = ⊥
  Over Close = Unit {0}
  Over End = Unit {0}
  Over Pass = Unit {0}

  pub seeks-over : (k name : ℕ) (x : Step) → step_at_lem m i ≡ x → Over x → seeks k m name i ≡ None
  unfolding seeks
  seeks-over zero name x h o = refl
  seeks-over (suc k) name (Param f) h o = absurd o
  seeks-over (suc k) name Close h o = rw h
  seeks-over (suc k) name End h o = rw h
  seeks-over (suc k) name Pass h o = rw h
