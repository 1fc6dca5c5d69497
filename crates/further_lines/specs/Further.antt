-- What a request past BICC's does: the totals afterwards, and the answer's line.
use Rattle.std.specs.Prelude.{ℕ, List, ltb, leb}
use Rattle.octets.specs.Choice.{when◌then◌else◌}
use Rattle.words.specs.Said.{said}
use Rattle.fields.specs.Kinds.{FieldSays}
use Rattle.forms.specs.Rows.{SCCP-COMPACT, SCCP-LIST, BUSY, REBUILD}
use Rattle.sccp_lines.specs.Sccp.{sccp_line_lem}
use Rattle.list_lines.specs.Lists.{list_line_lem}
use Rattle.busy_lines.specs.Busy.{BusyAfter, busy_after, busy_done}

-- the line of a row past BICC's that leaves the tables: SCCP's, and then those that list
-- parameters; any other is no request
unfoldable pub further_line_lem : ℕ → List FieldSays → List ℕ
further_line_lem which gs =
    when leb which SCCP-COMPACT then sccp_line_lem which gs
    else when leb which SCCP-LIST then list_line_lem which gs
    else said "bad line"

-- what a row past BICC's leaves in the totals, and its line: those about the totals stand last
unfoldable pub further_done : List ℕ → List ℕ → ℕ → List FieldSays → BusyAfter
further_done states totals which gs =
    when ltb which BUSY then busy_after totals (further_line_lem which gs)
    else when leb which REBUILD then busy_done states totals which gs
    else busy_after totals (said "bad line")
