-- What the check says in the plain cases: the empty plan, a plan cut off, a length octet 0; and the
-- contract leaves no choice.
use Prim.Native.Nat.{ℕ, suc, ◌≤◌}
use mathlib.Core.Path.{◌≡◌, refl, sym, ◌∙◌, ap}
use mathlib.Core.Bool.{Bool, true, false}
use mathlib.Core.List.{List, [], ◌∷◌}
use mathlib.Core.Logic.{⊎_elim}
use native.Mathlib.Omega.{arith}
use borrow.Author.Tests.{eq-eqb}
use lib.ListN.{length}
use Rattle.octets.specs.Octet.{octet, AllOctets}
use Rattle.octets.specs.Answer.{accepted}
use Rattle.octets.proofs.Answer.{refused-accepted}
use Rattle.octets.proofs.Choice.{decided}
use Rattle.layout.specs.Container.{parts_of}
use Rattle.isup.specs.Read.{read_of}
use Rattle.asks.specs.declared.Ask.{Ask}
use Rattle.asks.specs.Asks.{ask_of}
use Rattle.rights.specs.Tables.{Tables}
use Rattle.plans.specs.Frames.{framed, Each}
use Rattle.plans.specs.Plans.{Step, times, messages}
use Rattle.plans.specs.Turns.{tables_after, InTurn, GoodPlan, check_at}
use Rattle.plans.proofs.Turns.{good-accepted, check-exactly}

-- a message that asks has octets
asks-some : (m : List ℕ) (a : Ask) → ask_of m ≡ accepted a → 1 ≤ length m
unfolding ask_of read_of parts_of
asks-some [] a e = absurd (refused-accepted e)
asks-some (x ∷ m) a e = omega arith

-- so has each message of a plan: a length octet 0 is no part of one
pub lengths_some : (sender kind : ℕ) (T : Tables) (steps : List Step) → InTurn T sender kind steps → Each (λ (s : Step). 1 ≤ length s.message) steps
lengths_some sender kind T [] h = tt
lengths_some sender kind T (s ∷ ss) h = (asks-some s.message s.ask h.0.asks, lengths_some sender kind (tables_after T sender s.message) ss h.1)

module _ (T : Tables) (ticks : List ℕ) (sender kind : ℕ) where
  -- the empty plan is good where no circuit is ticked, whoever the sender is
  pub empty-good : length T.states ≡ 4096 → length T.owners ≡ 4096 → length T.helpers ≡ 4096 → length ticks ≡ 4096 → kind ≤ 1 → ((c : ℕ) → c ≤ 4095 → octet ticks c ≡ 0)
      → check_at T ticks sender kind [] ≡ true
  unfolding framed times
  empty-good p q h t k z =
      good-accepted T ticks sender kind []
      (record {
        states-sized = p;
        owners-sized = q;
        helpers-sized = h;
        sized = t;
        kinds = k;
        steps = [];
        frames = refl;
        each = tt;
        once = λ c l. rw (eq-eqb _ _ (z c l));
      })

  -- what is no good plan is not accepted
  pub no-good : (plan : List ℕ) → AllOctets plan → (GoodPlan T ticks sender kind plan → ⊥) → check_at T ticks sender kind plan ≡ false
  no-good plan o none =
      ⊎_elim (λ e. absurd (none ((check-exactly T ticks sender kind plan o).0 e))) (λ e. e) (decided (check_at T ticks sender kind plan))

  -- a plan cut off, octets that are no messages after their lengths: no
  pub cut-off-no : (plan : List ℕ) → AllOctets plan → ((ms : List (List ℕ)) → plan ≡ framed ms → ⊥) → check_at T ticks sender kind plan ≡ false
  cut-off-no plan o none = no-good plan o (λ g. none (messages g.steps) g.frames)

  -- a plan that starts with a length octet 0: no
  pub zero-length-no : (rest : List ℕ) → AllOctets (0 ∷ rest) → check_at T ticks sender kind (0 ∷ rest) ≡ false
  unfolding framed
  zero-length-no rest o = no-good (0 ∷ rest) o (λ g. go g.steps (lengths_some sender kind T g.steps g.each) g.frames)
    where
      go : (steps : List Step) → Each (λ (s : Step). 1 ≤ length s.message) steps → 0 ∷ rest ≡ framed (messages steps) → ⊥
      go [] h e = let z : ◌≡◌ {A = ℕ} (suc (length rest)) 0 = ap length e in omega arith
      go (s ∷ ss) h e = let z : ◌≡◌ {A = ℕ} 0 (length s.message) = ap (λ (l : List ℕ). octet l 0) e in omega (arith, h.0)

-- the contract leaves no choice
pub check-determined : (T : Tables) (ticks : List ℕ) (sender kind : ℕ) (plan : List ℕ) (r s : Bool) → r ≡ check_at T ticks sender kind plan → s ≡ check_at T ticks sender kind plan → r ≡ s
check-determined T ticks sender kind plan r s p q = p ∙ sym q
