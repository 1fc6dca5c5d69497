-- What a sender may do on the circuits that are named. Order: 19, 22, 20, 21.
use Rattle.std.specs.Prelude.{ℕ, ◌+◌, Bool, false, not, List, ltb, eqb, is_some}
use Rattle.octets.specs.Octet.{octet}
use Rattle.octets.specs.Choice.{when◌then◌else◌}
use Rattle.octets.specs.Answer.{Answer, accepted, refused}
use Rattle.rows.specs.declared.Act.{Act}
use Rattle.rows.specs.declared.Act.TheVariants.{Seize, Release, Reset, Block, Unblock, ResetGroup, BlockGroup, UnblockGroup, Query}
use Rattle.asks.specs.declared.Ask.{Ask}
use Rattle.rights.specs.Tables.{Tables, sized}
use Rattle.rights.specs.Rights.{may_help, first_foreign_lem, first_unowned_lem, first_illegal_lem}

-- IAM on a circuit that is busy or blocked, by the far side or by us
abbrev pub is_taken : List ℕ → Act → ℕ → Bool
is_taken states Seize circuit = not (eqb (octet states circuit) 0)
is_taken states Release circuit = false
is_taken states Reset circuit = false
is_taken states Block circuit = false
is_taken states Unblock circuit = false
is_taken states ResetGroup circuit = false
is_taken states BlockGroup circuit = false
is_taken states UnblockGroup circuit = false
is_taken states Query circuit = false

-- a named circuit is only helped by the sender, and the act is none that a helper may do
unfoldable pub is_unhelpable : Tables → ℕ → Ask → Bool
is_unhelpable T sender a =
    when may_help a.act a.block then false
    else is_some (first_unowned_lem T.owners sender a.circuit (a.range + 1))

-- 19 where the sender has no right on a named circuit, 22 where it only helps one and
-- a helper may not do the act, 20 where a named circuit's row is not legal, 21 for
-- IAM on a circuit that is busy or blocked
unfoldable pub permitted_of : Tables → ℕ → Ask → Answer Ask
permitted_of T sender a =
    when is_some (first_foreign_lem T.owners T.helpers sender a.circuit (a.range + 1)) then refused 19 0
    else when is_unhelpable T sender a then refused 22 0
    else when is_some (first_illegal_lem T.states a.circuit (a.range + 1)) then refused 20 0
    else when is_taken T.states a.act a.circuit then refused 21 0
    else accepted a

-- the same of whatever is lent: 16 where a table has not 4096 octets, 18
-- where the group passes circuit 4095
unfoldable pub permitted_in : Tables → ℕ → Ask → Answer Ask
permitted_in T sender a =
    when sized T then (when ltb 4095 (a.circuit + a.range) then refused 18 0 else permitted_of T sender a)
    else refused 16 0
