-- The check: along the plan, each message judged at the given tables, each marked circuit not seen
-- before; at the end, the circuits seen are those ticked.
use Rattle.std.specs.Prelude.{ℕ, zero, suc, ◌+◌, ◌-◌, Bool, true, false, List, [], ◌∷◌, ltb, eqb, length, take, drop, set, replicate}
use Rattle.octets.specs.Octet.{octet}
use Rattle.octets.specs.Choice.{when◌then◌else◌}
use Rattle.octets.specs.Answer.{Answer, accepted, refused, ◌then◌}
use Rattle.layout.specs.Container.{bit}
use Rattle.asks.specs.declared.Ask.{Ask}
use Rattle.asks.specs.Asks.{mark_of}
use Rattle.plans.specs.Plans.{ticked, fits_kind}

-- the n circuits from c on: each that is marked is seen from now on, and was not before
unfoldable pub seeing : (ℕ → Bool) → ℕ → ℕ → List ℕ → Answer (List ℕ)
seeing marks c zero seen = accepted seen
seeing marks c (suc n) seen =
    when marks c then (when eqb (octet seen c) 0 then seeing marks (suc c) n (set seen c 1) else refused 0 0)
    else seeing marks (suc c) n seen

-- one message
unfoldable pub taking : ℕ → List ℕ → List ℕ → Ask → Answer (List ℕ)
taking kind seen m a =
    when fits_kind kind a then seeing (λ c. mark_of m a.status (c - a.circuit)) a.circuit (a.range + 1) seen
    else refused 0 0

-- a refusal without its number: the check says yes or no
abbrev pub unnumbered : {A : Type 0} → Answer A → Answer A
unnumbered (accepted a) = accepted a
unnumbered (refused n at) = refused 0 0

-- yes with what is seen by then, or no
abbrev pub told_seen : Bool → List ℕ → Answer (List ℕ)
told_seen ok left = when ok then accepted left else refused 0 0

-- a message, judged
unfoldable pub hearing : (List ℕ → Answer Ask) → ℕ → List ℕ → List ℕ → Answer (List ℕ)
hearing judge kind seen m = unnumbered (judge m) then taking kind seen m

-- along the plan; f is at least the count of octets
unfoldable pub walk : (List ℕ → Answer Ask) → ℕ → ℕ → List ℕ → List ℕ → Answer (List ℕ)
walk judge kind zero seen [] = accepted seen
walk judge kind zero seen (n ∷ rest) = refused 0 0
walk judge kind (suc f) seen [] = accepted seen
walk judge kind (suc f) seen (n ∷ rest) =
    when ltb (length rest) n then refused 0 0
    else (hearing judge kind seen (take n rest) then λ s. walk judge kind f s (drop n rest))

-- of the n circuits from c on, those that are seen are those ticked
unfoldable pub agree : List ℕ → List ℕ → ℕ → ℕ → Bool
agree ticks seen c zero = true
agree ticks seen c (suc n) = when eqb (octet seen c) (bit (ticked ticks c)) then agree ticks seen (suc c) n else false

-- the same at the end of the plan
abbrev pub agreeing : List ℕ → Answer (List ℕ) → Bool
agreeing ticks (accepted seen) = agree ticks seen 0 4096
agreeing ticks (refused n at) = false

-- the whole check, with ticks for 4096 circuits and a kind of 0 or 1
unfoldable pub check_of : (List ℕ → Answer Ask) → List ℕ → ℕ → List ℕ → Bool
check_of judge ticks kind plan =
    when eqb (length ticks) 4096 then (when ltb 1 kind then false else agreeing ticks (walk judge kind (length plan) (replicate 4096 0) plan))
    else false
