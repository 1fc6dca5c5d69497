-- The lengths of the tables that are lent to the desk.
use Rattle.std.specs.Prelude.{ℕ, Bool, false, eqb}
use Rattle.octets.specs.Choice.{when◌then◌else◌}

-- the lengths of states, owners, helpers, totals and ticks, as the desk has them
abbrev pub desk_sized_by : ℕ → ℕ → ℕ → ℕ → ℕ → Bool
desk_sized_by states owners helpers totals ticks =
    when eqb states 4096
    then (when eqb owners 4096
    then (when eqb helpers 4096 then (when eqb totals 64 then eqb ticks 4096 else false) else false)
    else false)
    else false
