-- The planner, all of it: the answer and the lent buffer afterwards. Order: 16, 14, 20, 25, 13.
use Rattle.std.specs.Prelude.{ℕ, ◌*◌, ◌≤◌, ◌<◌, ◌≡◌, Bool, false, List, [], ◌∷◌, ◌⊎◌, ltb, eqb, is_some, length}
use Rattle.octets.specs.Octet.{octet}
use Rattle.octets.specs.Choice.{when◌then◌else◌}
use Rattle.octets.specs.Answer.{Answer, accepted, refused}
use Rattle.octets.specs.Filled.{Done, done}
use Rattle.octets.specs.Faults.{Fault, fault}
use Rattle.rows.specs.Rows.{Legal}
use Rattle.rights.specs.Tables.{Tables, sized}
use Rattle.rights.specs.Rights.{first_illegal_lem}
use Rattle.rights.specs.Faults.{WrongTables}
use Rattle.plans.specs.Plans.{ticked}
use Rattle.plans.specs.Turns.{may_block_lem, GoodPlan}
use Rattle.surveys.specs.Surveys.{tick_count, is_stuck}
use Rattle.planning.specs.Planner.{plan_of}

-- whether each of the four tables has exactly 4096 octets
abbrev pub sized_all : Tables → List ℕ → Bool
sized_all T ticks = when sized T then eqb (length ticks) 4096 else false

-- a message after its length octet
abbrev pub frame : List ℕ → List ℕ
frame m = length m ∷ m

-- past the planner's tests, as the plan is laid
pub record PlanReady (owners helpers ticks : List ℕ) (sender kind room : ℕ) : Type 0 where
  pub owners-sized : length owners ≡ 4096
  pub helpers-sized : length helpers ≡ 4096
  pub ticks-sized : length ticks ≡ 4096
  pub kinds : kind ≤ 1
  pub unstuck : is_stuck kind (may_block_lem kind owners helpers sender) (ticked ticks) ≡ false
  pub room_for : 9 * tick_count (ticked ticks) 0 4096 ≤ room

-- R66. the plan for the sender's ticked circuits
abbrev pub plan_for : List ℕ → List ℕ → List ℕ → ℕ → ℕ → List ℕ
plan_for owners helpers ticks sender kind =
    plan_of kind (may_block_lem kind owners helpers sender) (ticked ticks)

-- the plan's octets, or the number
unfoldable pub planned_in : Tables → List ℕ → ℕ → ℕ → ℕ → Answer (ℕ × List ℕ)
planned_in T ticks sender kind room =
    when sized_all T ticks then
    (when ltb 1 kind then refused 14 0
    else (when is_some (first_illegal_lem T.states 0 4096) then refused 20 0
    else (when is_stuck kind (may_block_lem kind T.owners T.helpers sender) (ticked ticks)
    then refused 25 0
    else (when ltb room (9 * tick_count (ticked ticks) 0 4096) then refused 13 0
    else accepted (
      length (plan_for T.owners T.helpers ticks sender kind),
      plan_for T.owners T.helpers ticks sender kind,
    )))))
    else refused 16 0

-- the answer, with what the lent buffer holds afterwards
unfoldable pub planned_of : Tables → List ℕ → ℕ → ℕ → List ℕ → Done ℕ
planned_of T ticks sender kind buffer = done buffer (planned_in T ticks sender kind (length buffer))

-- R67. 25: no plan exists
abbrev pub NoPlan : Tables → List ℕ → ℕ → ℕ → Type 0
NoPlan T ticks sender kind = (plan : List ℕ) → GoodPlan T ticks sender kind plan → ⊥

-- R67. what the planner may be refused for, in the paper's words and order: 25 exactly if no plan
-- exists, and 13 under 9 octets for each ticked circuit
abbrev pub plan_faults : Tables → List ℕ → ℕ → ℕ → ℕ → List Fault
plan_faults T ticks sender kind room =
    fault 16 0 (WrongTables T ⊎ (length ticks ≡ 4096 → ⊥))
    ∷ fault 14 0 (1 < kind)
    ∷ fault 20 0 ((c : ℕ) × (c ≤ 4095) × (Legal (octet T.states c) → ⊥))
    ∷ fault 25 0 (NoPlan T ticks sender kind)
    ∷ fault 13 0 (room < 9 * tick_count (ticked ticks) 0 4096)
    ∷ []
