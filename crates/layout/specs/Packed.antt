-- A shape row packed into one octet.
use Rattle.std.specs.Prelude.{Option, Some, None}
use Rattle.layout.specs.declared.Shape.{Shape}
use Rattle.std.specs.Prelude.{ℕ, ◌+◌, ◌*◌, ◌/◌, ◌%◌, eqb}
use Rattle.octets.specs.Choice.{when◌then◌else◌}
use Rattle.layout.specs.Container.{bit}

-- a row packed: 16 for each fixed octet, 4 for each variable parameter, 2 for an optional part, and
-- 1; 0 for a type that is not in the table
abbrev pub packed_of : Option Shape → ℕ
packed_of None = 0
packed_of (Some s) = 16 * s.fixed + 4 * s.vars + 2 * bit s.opt + 1

-- the row that a packed one says; a number without the 1 says none
unfoldable pub unpacked_of : ℕ → Option Shape
unpacked_of p = when eqb (p % 2) 0 then None else Some (record { fixed = p / 16; vars = p / 4 % 4; opt = eqb (p / 2 % 2) 1 })
