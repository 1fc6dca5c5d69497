-- A well-formed ISUP message, as the paper says it: no order of reading.
use Rattle.std.specs.Prelude.{ℕ, ◌≤◌, ◌≡◌, List, Some, length}
use Rattle.octets.specs.Octet.{octet}
use Rattle.layout.specs.declared.Shape.{Shape}
use Rattle.runs.specs.Params.{Param}
use Rattle.layout.specs.Laid.{LaidOut}
use Rattle.isup.specs.declared.Message.{Message}
use Rattle.isup.specs.Limits.{longest}
use Rattle.isup.specs.Table.{shape_of}
use Rattle.isup.specs.Read.{circuit_of_lem}

-- R5. 3 to 268 octets, a type of the table, and its parts laid out as the type's row says
pub record WellFormed (m : List ℕ) (x : Message) : Type 0 where
  pub shape : Shape
  pub params : List Param
  pub least : 3 ≤ length m
  pub most : length m ≤ longest
  pub circuit : x.circuit ≡ circuit_of_lem m
  pub kind : x.kind ≡ octet m 2
  pub listed : shape_of x.kind ≡ Some shape
  pub laid : LaidOut m 2 shape x.parts params
