-- The searches and the count, a step at a time, as the code takes them.
use Prim.Native.Nat.{ℕ, zero, suc, ◌+◌, ◌-◌, ◌≤◌, ◌<◌}
use mathlib.Core.Path.{◌≡◌, refl, sym, ◌∙◌, ap}
use mathlib.Core.Bool.{Bool, true, false}
use mathlib.Core.List.{List}
use borrow.Author.Tests.{ne_eqb}
use native.Mathlib.Omega.{arith}
use native.Mathlib.Nat.{zero-add, add-zero}
use lib.ListN.{length, get_or-eq_default}
use Rattle.std.specs.Prelude.{Result, Ok, Err, is_some}
use Rattle.octets.specs.declared.Refusal.{Refusal}
use Rattle.octets.specs.declared.Refusal.TheVariants.{IllegalRow, NoPlan}
use Rattle.octets.specs.Octet.{octet}
use Rattle.octets.specs.Choice.{when◌then◌else◌}
use Rattle.layout.specs.Container.{bit}
use Rattle.rows.specs.Rows.{is_legal}
use Rattle.rights.specs.Rights.{first_not, first_illegal_lem}
use Rattle.rights.proofs.Searches.{search-done, search-ends, search-on}
use Rattle.plans.specs.Plans.{ticked}
use Rattle.surveys.specs.Surveys.{tick_count, will_do_lem, is_stuck, survey_of}

module _ (good : ℕ → Bool) (c : ℕ) where
  pub found-done : (n : ℕ) → n ≡ 0 → is_some (first_not good c n) ≡ false
  found-done n e = ap is_some (search-done good c n e)

  pub found-ends : (n : ℕ) → 0 < n → good c ≡ false → is_some (first_not good c n) ≡ true
  found-ends n h e = ap is_some (search-ends good c n h e)

  pub found-on : (n k : ℕ) → n ≡ suc k → good c ≡ true → is_some (first_not good c n) ≡ is_some (first_not good (c + 1) k)
  found-on n k h e = ap is_some (search-on good c n k h e)

module _ (tick : ℕ → Bool) (c : ℕ) where
  pub tally-done : (n : ℕ) → n ≡ 0 → tick_count tick c n ≡ 0
  unfolding tick_count
  tally-done n e = rw e

  pub tally-on : (n k w : ℕ) → n ≡ suc k → w ≡ bit (tick c) → tick_count tick c n ≡ w + tick_count tick (c + 1) k
  unfolding tick_count
  tally-on n k w h e = let s : c + 1 ≡ suc c = omega arith in rw (h, s, e)

bit-most : (t : Bool) → bit t ≤ 1
bit-most true = omega arith
bit-most false = omega arith

-- no more are ticked than there are
pub tally-most : (tick : ℕ → Bool) (c n : ℕ) → tick_count tick c n ≤ n
unfolding tick_count
tally-most tick c zero = omega arith
tally-most tick c (suc n) = omega (arith, bit-most (tick c), tally-most tick (suc c) n)

-- ---- the survey's one pass
abbrev answer : Bool → Bool → ℕ → Result ℕ Refusal
answer illegal stuck n = when illegal then Err IllegalRow else (when stuck then Err NoPlan else Ok n)

module _ (states : List ℕ) (kind : ℕ) (can tick : ℕ → Bool) where
  -- what it answers, with a circuit stuck or not and m ticked so far, and n circuits from c on left
  unfoldable pub survey_from : Bool → ℕ → ℕ → ℕ → Result ℕ Refusal
  survey_from stuck m c n = answer (is_some (first_illegal_lem states c n)) (when stuck then true else is_some (first_not (will_do_lem kind can tick) c n)) (m + tick_count tick c n)

  pub pass-starts : survey_from false 0 0 (4096 - 0) ≡ survey_of states kind can tick
  unfolding survey_from survey_of is_stuck
  pass-starts = rw (zero-add (tick_count tick 0 4096))

  module _ (stuck : Bool) (m c n : ℕ) where
    -- no circuit is left
    pub pass-stuck : n ≡ 0 → stuck ≡ true → survey_from stuck m c n ≡ Err NoPlan
    unfolding survey_from
    pass-stuck e s = rw (found-done (λ j. is_legal (octet states j)) c n e, s)

    pub pass-ticked : n ≡ 0 → stuck ≡ false → survey_from stuck m c n ≡ Ok m
    unfolding survey_from
    pass-ticked e s = rw (found-done (λ j. is_legal (octet states j)) c n e, s, found-done (will_do_lem kind can tick) c n e, tally-done tick c n e, add-zero m)

    -- this row is not legal
    pub pass-illegal : 0 < n → is_legal (octet states c) ≡ false → survey_from stuck m c n ≡ Err IllegalRow
    unfolding survey_from
    pass-illegal h e = rw (found-ends (λ j. is_legal (octet states j)) c n h e)

    module _ (k : ℕ) (h : n ≡ suc k) (e : is_legal (octet states c) ≡ true) where
      -- this circuit is not ticked
      pub pass_on : tick c ≡ false → survey_from stuck m c n ≡ survey_from stuck m (c + 1) k
      unfolding survey_from
      pass_on t = rw (found-on (λ j. is_legal (octet states j)) c n k h e, found-on (will_do_lem kind can tick) c n k h (rw t), tally-on tick c n k 0 h (rw t), zero-add (tick_count tick (c + 1) k))

      -- this one is
      pub pass-tick : (s : Bool) → tick c ≡ true → s ≡ (when will_do_lem kind can tick c then stuck else true) → survey_from stuck m c n ≡ survey_from s (m + 1) (c + 1) k
      unfolding survey_from
      pass-tick s t q =
          let f = found-on (λ j. is_legal (octet states j)) c n k h e in
          let g : (when stuck then true else is_some (first_not (will_do_lem kind can tick) c n)) ≡ (when s then true else is_some (first_not (will_do_lem kind can tick) (c + 1) k)) = sym (ap (λ (i : Bool). when i then true else is_some (first_not (will_do_lem kind can tick) (c + 1) k)) q ∙ go stuck (will_do_lem kind can tick c) refl) in
          let a : m + tick_count tick c n ≡ m + 1 + tick_count tick (c + 1) k = omega (arith, tally-on tick c n k 1 h (rw t)) in
          λ i. answer (f i) (g i) (a i)
        where
          go : (s w : Bool) → will_do_lem kind can tick c ≡ w
              → (when (when w then s else true) then true else is_some (first_not (will_do_lem kind can tick) (c + 1) k)) ≡ (when s then true else is_some (first_not (will_do_lem kind can tick) c n))
          go true true q = refl
          go true false q = refl
          go false true q = sym (found-on (will_do_lem kind can tick) c n k h q)
          go false false q = sym (found-ends (will_do_lem kind can tick) c n (omega arith) q)

-- ---- what an answer tells
tells-illegal : (illegal stuck : Bool) (m : ℕ) → answer illegal stuck m ≡ Err IllegalRow → illegal ≡ true
tells-illegal true stuck m e = refl
tells-illegal false true m e = cc
tells-illegal false false m e = cc

tells-ticked : (illegal stuck : Bool) (m n : ℕ) → answer illegal stuck m ≡ Ok n → (illegal ≡ false) × (stuck ≡ false) × (n ≡ m)
tells-ticked true stuck m n e = cc
tells-ticked false true m n e = cc
tells-ticked false false m n e = (refl, refl, cc)

module _ (states : List ℕ) (kind : ℕ) (can tick : ℕ → Bool) where
  pub told-illegal : survey_of states kind can tick ≡ Err IllegalRow → is_some (first_illegal_lem states 0 4096) ≡ true
  unfolding survey_of
  told-illegal e = tells-illegal (is_some (first_illegal_lem states 0 4096)) (is_stuck kind can tick) (tick_count tick 0 4096) e

  pub told-ticked : (n : ℕ) → survey_of states kind can tick ≡ Ok n → (is_some (first_illegal_lem states 0 4096) ≡ false) × (is_stuck kind can tick ≡ false) × (n ≡ tick_count tick 0 4096)
  unfolding survey_of
  told-ticked n e = tells-ticked (is_some (first_illegal_lem states 0 4096)) (is_stuck kind can tick) (tick_count tick 0 4096) n e

-- past the end of a table nothing is ticked
pub past-table : (ticks : List ℕ) (c : ℕ) → length ticks ≤ c → ticked ticks c ≡ false
past-table ticks c h = rw (get_or-eq_default ticks 0 {n = c} h)

pub not-ticked : (ticks : List ℕ) (c : ℕ) → octet ticks c ≡ 0 → ticked ticks c ≡ false
not-ticked ticks c e = rw e

pub is-ticked : (ticks : List ℕ) (c : ℕ) → (octet ticks c ≡ 0 → ⊥) → ticked ticks c ≡ true
is-ticked ticks c e = rw (ne_eqb _ _ e)
