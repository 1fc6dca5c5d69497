-- What the code's own contracts use.
use Rattle.std.specs.Prelude.{ℕ, ◌+◌, ltb}
use Rattle.octets.specs.Choice.{when◌then◌else◌}

-- where the entries up to the last end in a table of that length
unfoldable pub span_end : ℕ → ℕ → ℕ
span_end length last = when ltb last length then last + 1 else length
