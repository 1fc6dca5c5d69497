-- The report of a day, from its tables.
use Rattle.std.specs.Prelude.{ℕ, ◌+◌, zero, suc, List, [], ◌∷◌, ◌++◌, eqb}
use Rattle.octets.specs.Octet.{octet}
use Rattle.lines.specs.Lines.{refusal}
use Rattle.octets.specs.Choice.{when◌then◌else◌}
use Rattle.tallies.specs.declared.Tally.{Tally}
use Rattle.book.specs.declared.Await.{Await}
use Rattle.book.specs.declared.Place.{Place}
use Rattle.day.specs.Hub.{Rows, busy_at_lem}
use Rattle.tallies.specs.Lines.{tally, lines_for}
use Rattle.book.specs.Awaits.{is_done}
use Rattle.day.specs.Day.{Day, day, day_sized, Machine}

-- how many of the n circuits from c on are q's and busy
unfoldable pub busy_of_lem : List ℕ → Rows → ℕ → ℕ → ℕ → ℕ
busy_of_lem owners rows q c zero = 0
busy_of_lem owners rows q c (suc n) =
    (when eqb (octet owners c) q then busy_at_lem rows c else 0) + busy_of_lem owners rows q (suc c) n

-- a sender's four numbers, by the counters and the tables
abbrev pub tally_in_lem : Day → ℕ → Tally
tally_in_lem t q =
    tally
    (octet t.accepted q + octet t.refused q)
    (octet t.accepted q)
    (octet t.refused q)
    (busy_of_lem t.owners t.rows q 0 4096)

-- refused 24, alone on the line
abbrev pub no_book : List ℕ
no_book = refusal 24 ++ (10 ∷ [])

-- the lines where the book has ended, and else that it is no book
unfoldable pub text_of : Await → Day → List ℕ
text_of a t = when is_done a then lines_for (tally_in_lem t) else no_book

-- the same of a machine
abbrev pub text : Machine → List ℕ
text m = text_of m.awaits m.day

-- what `report` puts; tables of other lengths are no book's
abbrev pub report_of : Place → Day → List ℕ
report_of p t = when day_sized t then text_of p.awaits t else no_book
