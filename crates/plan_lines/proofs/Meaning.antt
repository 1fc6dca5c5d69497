-- What the three requests do to the ticks, and what their lines say.
use Prim.Native.Nat.{ℕ, ◌+◌, ◌-◌, ◌<◌, ◌≤◌}
use mathlib.Core.Path.{◌≡◌, refl, sym, ap}
use mathlib.Core.Bool.{Bool, true, false}
use mathlib.Core.List.{List}
use mathlib.Core.Logic.{◌⊎◌, ⊎_elim, ◌↔◌}
use native.Mathlib.Decide.{dec_lt}
use native.Mathlib.Omega.{arith}
use borrow.Author.Tests.{eqb-true}
use lib.Dec.{eqb}
use lib.ListN.{length, get_or, take}
use Rattle.octets.specs.Octet.{octet, AllOctets}
use Rattle.octets.specs.Choice.{when◌then◌else◌}
use Rattle.octets.specs.Answer.{Answer, accepted, refused}
use Rattle.octets.specs.Filled.{leaving}
use Rattle.octets.specs.Applied.{spread}
use Rattle.octets.proofs.Applied.{applied-in, applied-below, applied-past}
use Rattle.rights.specs.Tables.{Tables}
use Rattle.plans.specs.Turns.{GoodPlan, check_at}
use Rattle.plans.proofs.Turns.{check-exactly}
use Rattle.planning.specs.Outcome.{planned_of}
use Rattle.planning.proofs.Outcome.{plan-checks}
use Rattle.words.specs.Said.{said}
use Rattle.fields.specs.Kinds.{FieldSays}
use Rattle.forms.specs.Rows.{TICK, PLAN, CHECK}
use Rattle.requests.specs.Words.{number_at, octet_at_lem, octets_at}
use Rattle.lines.specs.Lines.{shown, refusal, written_line}
use Rattle.plan_lines.specs.Night.{plan_lent, plan_line, checked_line, night_after, night_done}

-- yes is said of true alone
yes_true : (b : Bool) → checked_line b ≡ said "yes" → b ≡ true
unfolding checked_line
yes_true true e = refl
yes_true false e = let z : ◌≡◌ {A = ℕ} 110 121 = ap (λ (l : List ℕ). get_or l 0 0) e in absurd (omega arith)

module _ (T : Tables) (ticks : List ℕ) (gs : List FieldSays) where
  -- only tick changes them: plan and check keep them
  pub others-keep-ticks : (which : ℕ) → (which ≡ TICK → ⊥) → (night_done T ticks which gs).ticks ≡ ticks
  unfolding night_done
  others-keep-ticks which n = go (eqb which TICK) (eqb which PLAN) refl
    where
      go : (a b : Bool) → eqb which TICK ≡ a
          → (when a then night_after (spread ticks (number_at gs 0) (number_at gs 1) (octet_at_lem gs 2)) (said "ok")
          else when b then night_after ticks (plan_line T ticks (number_at gs 0) (number_at gs 1) (number_at gs 2))
          else night_after ticks (checked_line (check_at T ticks (number_at gs 0) (number_at gs 1) (octets_at gs 2)))).ticks ≡ ticks
      go true b e = absurd (n (eqb-true which TICK e))
      go false true e = refl
      go false false e = refl

  -- tick overwrites each circuit from the first to the last
  pub tick-there : (c : ℕ) → number_at gs 0 ≤ c → c ≤ number_at gs 1 → c < length ticks → octet (night_done T ticks TICK gs).ticks c ≡ octet_at_lem gs 2
  unfolding night_done
  tick-there c a b h = applied-in (λ place old. octet_at_lem gs 2) (number_at gs 0) (number_at gs 1 + 1 - number_at gs 0) ticks c a (omega arith) h

  -- and every other stays
  pub tick-elsewhere : (c : ℕ) → (c < number_at gs 0) ⊎ (number_at gs 1 < c) → octet (night_done T ticks TICK gs).ticks c ≡ octet ticks c
  unfolding night_done
  tick-elsewhere c =
      ⊎_elim (applied-below (λ place old. octet_at_lem gs 2) (number_at gs 0) (number_at gs 1 + 1 - number_at gs 0) ticks c)
      past
    where
      past : number_at gs 1 < c → octet (spread ticks (number_at gs 0) (number_at gs 1) (octet_at_lem gs 2)) c ≡ octet ticks c
      past h = go (dec_lt c (number_at gs 0))
        where
          go : Dec (c < number_at gs 0) → octet (spread ticks (number_at gs 0) (number_at gs 1) (octet_at_lem gs 2)) c ≡ octet ticks c
          go (yes z) = applied-below (λ place old. octet_at_lem gs 2) (number_at gs 0) (number_at gs 1 + 1 - number_at gs 0) ticks c z
          go (no z) = applied-past (λ place old. octet_at_lem gs 2) (number_at gs 0) (number_at gs 1 + 1 - number_at gs 0) ticks c (omega arith)

  -- check says yes exactly of a good plan
  pub check-says : AllOctets (octets_at gs 2) → ((night_done T ticks CHECK gs).line ≡ said "yes") ↔ GoodPlan T ticks (number_at gs 0) (number_at gs 1) (octets_at gs 2)
  unfolding night_done checked_line
  check-says o =
      let w = check-exactly T ticks (number_at gs 0) (number_at gs 1) (octets_at gs 2) o in (
        λ e. w.0 (yes_true (check_at T ticks (number_at gs 0) (number_at gs 1) (octets_at gs 2)) e),
        λ g. ap checked_line (w.1 g),
      )

  -- a planner that refuses says its number
  pub plan-refused : (n at : ℕ) → (planned_of T ticks (number_at gs 0) (number_at gs 1) (plan_lent (number_at gs 2))).answer ≡ refused n at → (night_done T ticks PLAN gs).line ≡ refusal n
  unfolding night_done written_line
  plan-refused n at e = ap (λ (x : Answer ℕ). written_line x (planned_of T ticks (number_at gs 0) (number_at gs 1) (plan_lent (number_at gs 2))).left) e

  -- the plan that is shown is one that check says yes to
  pub plan-shown : (n : ℕ) → (planned_of T ticks (number_at gs 0) (number_at gs 1) (plan_lent (number_at gs 2))).answer ≡ accepted n
      → (plan : List ℕ) × ((night_done T ticks PLAN gs).line ≡ shown "octets " plan)
      × ((hs : List FieldSays) → number_at hs 0 ≡ number_at gs 0 → number_at hs 1 ≡ number_at gs 1 → octets_at hs 2 ≡ plan → (night_done T ticks CHECK hs).line ≡ said "yes")
  unfolding night_done written_line checked_line
  plan-shown n e =
      let d = planned_of T ticks (number_at gs 0) (number_at gs 1) (plan_lent (number_at gs 2)) in
      let k = plan-checks T ticks (number_at gs 0) (number_at gs 1) (plan_lent (number_at gs 2)) n d.left (ap (λ (x : Answer ℕ). leaving x d.left) (sym e)) in
      (take n d.left, ap (λ (x : Answer ℕ). written_line x d.left) e, λ hs p q r. rw (p, q, r) (ap checked_line k))
