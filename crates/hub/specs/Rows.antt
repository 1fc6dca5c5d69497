-- What a message makes of the rows.
use Rattle.std.specs.Prelude.{ℕ, ◌+◌, ◌-◌, List}
use Rattle.octets.specs.Applied.{applied}
use Rattle.rows.specs.Rows.{row_of}
use Rattle.asks.specs.declared.Ask.{Ask}
use Rattle.asks.specs.Asks.{mark_of}

-- what a message makes of circuit c's row
abbrev pub effect : List ℕ → Ask → ℕ → ℕ → ℕ
effect m a c row = row_of a.act a.block (mark_of m a.status (c - a.circuit)) row

-- the states after a message on circuits m to m+r
abbrev pub rows_after : List ℕ → Ask → List ℕ → List ℕ
rows_after m a states = applied (effect m a) a.circuit (a.range + 1) states
