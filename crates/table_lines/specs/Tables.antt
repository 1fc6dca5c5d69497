-- What the requests of the tables (own, helper, set, rows) do: the tables
-- afterwards, and the answer's line.
use Rattle.std.specs.Prelude.{ℕ, ◌+◌, ◌-◌, List, eqb}
use Rattle.octets.specs.Octet.{octets}
use Rattle.octets.specs.Choice.{when◌then◌else◌}
use Rattle.octets.specs.Applied.{spread}
use Rattle.totals.specs.Blocks.{recounted}
use Rattle.rights.specs.Tables.{Tables, tables}
use Rattle.words.specs.Said.{said}
use Rattle.printing.specs.Sheet.{Sheet, pour}
use Rattle.fields.specs.Kinds.{FieldSays}
use Rattle.forms.specs.Rows.{OWN, HELPER, SET}
use Rattle.requests.specs.Words.{number_at, octet_at_lem}
use Rattle.lines.specs.Lines.{shown}

-- the hub's tables, and the totals
pub record DeskTables : Type 0 where
  pub tables : Tables
  pub totals : List ℕ

-- states, owners, helpers and totals together
abbrev pub desk_tables : List ℕ → List ℕ → List ℕ → List ℕ → DeskTables
desk_tables states owners helpers totals =
    record { tables = tables states owners helpers; totals = totals }

-- the tables afterwards, and the answer's line
pub record Turn : Type 0 where
  pub tables : DeskTables
  pub line : List ℕ

-- both
abbrev pub turn : DeskTables → List ℕ → Turn
turn D line = record { tables = D; line = line }

-- all that a turn leaves: the tables, and the lent sheet with the answer
pub record Left : Type 0 where
  pub tables : DeskTables
  pub sheet : Sheet

-- both
abbrev pub left : DeskTables → Sheet → Left
left D sheet = record { tables = D; sheet = sheet }

-- the answer's line on the sheet
abbrev pub left_by : Turn → Sheet → Left
left_by t sheet = left t.tables (pour sheet t.line)

-- rows 00020100, an octet for each
abbrev pub rows_line : List ℕ → ℕ → ℕ → List ℕ
rows_line states first last = shown "rows " (octets states first (last + 1 - first))

-- the rows from the first to the last hold that octet, and the totals of the
-- blocks that they touch are right
abbrev pub set_turn : DeskTables → ℕ → ℕ → ℕ → DeskTables
set_turn D first last octet =
    let rows = spread D.tables.states first last octet in
    desk_tables rows D.tables.owners D.tables.helpers (recounted rows first last D.totals)

-- the requests of the tables, by what their fields say: own, helper, set,
-- and rows, the family's last
unfoldable pub table_turn_lem : DeskTables → ℕ → List FieldSays → Turn
table_turn_lem D which gs =
    when eqb which OWN
    then turn (desk_tables D.tables.states (spread D.tables.owners (number_at gs 0) (number_at gs 1) (octet_at_lem gs 2)) D.tables.helpers D.totals) (said "ok")
    else when eqb which HELPER
    then turn (desk_tables D.tables.states D.tables.owners (spread D.tables.helpers (number_at gs 0) (number_at gs 1) (octet_at_lem gs 2)) D.totals) (said "ok")
    else when eqb which SET
    then turn (set_turn D (number_at gs 0) (number_at gs 1) (octet_at_lem gs 2)) (said "ok")
    else turn D (rows_line D.tables.states (number_at gs 0) (number_at gs 1))
