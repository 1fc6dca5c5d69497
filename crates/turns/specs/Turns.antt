-- What the desk does with a request: the tables afterwards, and the answer's line.
use Rattle.std.specs.Prelude.{ℕ, List, ltb, leb, eqb}
use Rattle.octets.specs.Choice.{when◌then◌else◌}
use Rattle.words.specs.Said.{said}
use Rattle.printing.specs.Sheet.{Sheet, pour}
use Rattle.fields.specs.Kinds.{FieldSays}
use Rattle.forms.specs.Rows.{NUMBER, OWN, ACT, UNBLOCK, VELOCITY-BACK-LONG, BICC-COMPACT, TICK, CHECK}
use Rattle.codec_lines.specs.Codec.{codec_line_lem}
use Rattle.bicc_lines.specs.Bicc.{bicc_line_lem}
use Rattle.number_lines.specs.Numbers.{numbers_line_lem}
use Rattle.velocity_lines.specs.Velocities.{velocities_line_lem}
use Rattle.block_lines.specs.Blocks.{notice_line, block_done}
use Rattle.table_lines.specs.Tables.{DeskTables, desk_tables, Turn, turn, table_turn_lem}
use Rattle.act_lines.specs.Acts.{act_turn_lem}
use Rattle.further_lines.specs.Further.{further_done}
use Rattle.plan_lines.specs.Night.{night_done}

-- all that the desk holds: the tables with their totals, and the ticks
pub record Desk : Type 0 where
  pub held : DeskTables
  pub ticks : List ℕ

-- both
abbrev pub desk_with : DeskTables → List ℕ → Desk
desk_with held ticks = record { held = held; ticks = ticks }

-- states, owners, helpers, totals and ticks together
abbrev pub desk_from : List ℕ → List ℕ → List ℕ → List ℕ → List ℕ → Desk
desk_from states owners helpers totals ticks =
    desk_with (desk_tables states owners helpers totals) ticks

-- what the desk holds afterwards, and the answer's line
pub record DeskTurn : Type 0 where
  pub desk : Desk
  pub line : List ℕ

-- both
abbrev pub desk_turn : Desk → List ℕ → DeskTurn
desk_turn D line = record { desk = D; line = line }

-- all that a line leaves: what the desk holds, and the lent sheet with the answer
pub record DeskLeft : Type 0 where
  pub desk : Desk
  pub sheet : Sheet

-- both
abbrev pub desk_left : Desk → Sheet → DeskLeft
desk_left D sheet = record { desk = D; sheet = sheet }

-- the answer's line on the sheet
abbrev pub desk_left_by : DeskTurn → Sheet → DeskLeft
desk_left_by t sheet = desk_left t.desk (pour sheet t.line)

-- a line that is no request changes nothing
abbrev pub bad_turn : Desk → DeskTurn
bad_turn D = desk_turn D (said "bad line")

-- what `block` and `unblock` leave
abbrev pub block_turn_lem : DeskTables → ℕ → List FieldSays → Turn
block_turn_lem T which gs =
    let a = block_done T.tables.states T.totals which gs in
    turn (desk_tables a.states T.tables.owners T.tables.helpers a.totals)
    (notice_line a.answer a.buffer)

-- what a row past BICC's leaves: of the tables, only the totals change
abbrev pub further_turn_lem : DeskTables → ℕ → List FieldSays → Turn
further_turn_lem T which gs =
    let a = further_done T.tables.states T.totals which gs in
    turn (desk_tables T.tables.states T.tables.owners T.tables.helpers a.totals)
    a.line

-- a row before `tick`, by its family: the codec's stand before `number`, those for numbers before
-- `own`, those of the tables before `act`, then those that block from our side, then those for
-- velocities, then BICC's, and then the further ones
unfoldable pub turn_by : DeskTables → ℕ → List FieldSays → Turn
turn_by T which gs =
    when ltb which NUMBER then turn T (codec_line_lem which gs)
    else when ltb which OWN then turn T (numbers_line_lem which gs)
    else when ltb which ACT then table_turn_lem T which gs
    else when eqb which ACT then act_turn_lem T gs
    else when leb which UNBLOCK then block_turn_lem T which gs
    else when leb which VELOCITY-BACK-LONG then turn T (velocities_line_lem which gs)
    else when leb which BICC-COMPACT then turn T (bicc_line_lem which gs)
    else further_turn_lem T which gs

-- such a row leaves the ticks
abbrev pub held_turn : List ℕ → Turn → DeskTurn
held_turn ticks t = desk_turn (desk_with t.tables ticks) t.line

-- what `tick`, `plan` and `check` leave
abbrev pub night_turn : Desk → ℕ → List FieldSays → DeskTurn
night_turn D which gs =
    let a = night_done D.held.tables D.ticks which gs in
    desk_turn (desk_with D.held a.ticks) a.line

-- a row of the table: those of a maintenance night stand last
unfoldable pub row_turn_lem : Desk → ℕ → List FieldSays → DeskTurn
row_turn_lem D which gs =
    when ltb which TICK then held_turn D.ticks (turn_by D.held which gs)
    else when leb which CHECK then night_turn D which gs
    else bad_turn D
