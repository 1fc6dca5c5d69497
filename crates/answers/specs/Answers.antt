-- What the desk does with a line: the tables afterwards, and the answer's line.
use Rattle.std.specs.Prelude.{ℕ, Bool, List, ltb, length}
use Rattle.octets.specs.Choice.{when◌then◌else◌}
use Rattle.printing.specs.Sheet.{put}
use Rattle.requests.specs.Words.{Asked, asks, nothing, asked_of}
use Rattle.lines.specs.Lines.{refusal}
use Rattle.sizes.specs.Sizes.{desk_sized_by}
use Rattle.turns.specs.Turns.{Desk, DeskTurn, desk_turn, DeskLeft, desk_left, bad_turn, row_turn_lem}

-- each has its length
abbrev pub desk_sized : Desk → Bool
desk_sized D =
    desk_sized_by (length D.held.tables.states) (length D.held.tables.owners)
    (length D.held.tables.helpers) (length D.held.totals) (length D.ticks)

-- the octets of scratch that a line asks for: as many as half of its octets can be digits of, and
-- nine more for each of eight words that are kept as they are typed
abbrev pub scratch_least : ℕ
scratch_least = 41032

-- what is asked
abbrev pub turn_for : Desk → Asked → DeskTurn
turn_for D (asks which gs) = row_turn_lem D which gs
turn_for D nothing = bad_turn D

-- a line; 16 for tables or ticks that are not exactly 4096 octets, or totals
-- that are not 64, whatever is asked
unfoldable pub turn_of : List ℕ → Desk → DeskTurn
turn_of line D = when desk_sized D then turn_for D (asked_of line) else desk_turn D (refusal 16)

-- the same with so many octets of scratch: with too few, every line is a bad one
abbrev pub turn_in : ℕ → List ℕ → Desk → DeskTurn
turn_in scratch line D = when ltb scratch scratch_least then bad_turn D else turn_of line D

-- what a turn leaves, with the line's LF
abbrev pub with_line_end : DeskLeft → DeskLeft
with_line_end l = desk_left l.desk (put l.sheet 10)
