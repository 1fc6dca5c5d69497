-- What is looked for before a plan is laid: a row that is not legal, a ticked circuit that can have
-- no plan, and how many are ticked.
use Rattle.std.specs.Prelude.{ℕ, zero, suc, ◌+◌, ◌-◌, Bool, true, false, List, Result, Ok, Err, ltb, eqb, is_some}
use Rattle.octets.specs.declared.Refusal.{Refusal}
use Rattle.octets.specs.declared.Refusal.TheVariants.{IllegalRow, NoPlan}
use Rattle.octets.specs.Choice.{when◌then◌else◌}
use Rattle.layout.specs.Container.{bit}
use Rattle.rights.specs.Rights.{first_not, first_illegal_lem}

-- how many of the n circuits from c on are ticked
unfoldable pub tick_count : (ℕ → Bool) → ℕ → ℕ → ℕ
tick_count tick c zero = 0
tick_count tick c (suc n) = bit (tick c) + tick_count tick (suc c) n

-- the next circuit will do as the neighbour
abbrev pub next_will_do_lem : (ℕ → Bool) → ℕ → Bool
next_will_do_lem can c = when ltb c 4095 then can (c + 1) else false

-- whether a plan of that kind can mark circuit c
unfoldable pub can_plan : ℕ → (ℕ → Bool) → ℕ → Bool
can_plan kind can c =
    when can c
    then (when eqb kind 0 then true
    else (when next_will_do_lem can c then true else (when eqb c 0 then false else can (c - 1))))
    else false

-- not ticked, or a plan can mark it
abbrev pub will_do_lem : ℕ → (ℕ → Bool) → (ℕ → Bool) → ℕ → Bool
will_do_lem kind can tick c = when tick c then can_plan kind can c else true

-- a ticked circuit that no plan can mark: 25
unfoldable pub is_stuck : ℕ → (ℕ → Bool) → (ℕ → Bool) → Bool
is_stuck kind can tick = is_some (first_not (will_do_lem kind can tick) 0 4096)

-- all of it, in the order of the refusals: 20 for a row that is not legal, then
-- 25, then how many circuits are ticked
unfoldable pub survey_of : List ℕ → ℕ → (ℕ → Bool) → (ℕ → Bool) → Result ℕ Refusal
survey_of states kind can tick =
    when is_some (first_illegal_lem states 0 4096) then Err IllegalRow
    else (when is_stuck kind can tick then Err NoPlan else Ok (tick_count tick 0 4096))
