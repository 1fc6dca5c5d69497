-- What the code's own contracts use.
use Rattle.std.specs.Prelude.{ℕ, ◌+◌, List, ⊤, is_some}
use Rattle.octets.specs.Answer.{Answer, accepted, refused}
use Rattle.octets.specs.Choice.{when◌then◌else◌}
use Rattle.asks.specs.declared.Ask.{Ask}
use Rattle.rights.specs.Rights.{may_help, first_foreign_lem, first_unowned_lem}

-- 19 or 22 where it stands against what is asked
unfoldable pub against_of : List ℕ → List ℕ → ℕ → Ask → Answer ⊤
against_of owners helpers sender a =
    when is_some (first_foreign_lem owners helpers sender a.circuit (a.range + 1)) then refused 19 0
    else when may_help a.act a.block then accepted tt
    else when is_some (first_unowned_lem owners sender a.circuit (a.range + 1)) then refused 22 0
    else accepted tt
