-- The tables of a day: who owns what, the rows, and how many messages of each
-- sender were accepted and refused.
use Rattle.std.specs.Prelude.{ℕ, ◌+◌, ◌%◌, List, [], length, replicate, set, Bool, true, false, eqb}
use Rattle.octets.specs.Octet.{octet}
use Rattle.octets.specs.Choice.{when◌then◌else◌}
use Rattle.book.specs.declared.Await.{Await}
use Rattle.book.specs.declared.Await.TheVariants.{SpanCount, Bad}
use Rattle.day.specs.Hub.{Rows, at_first_lem, Heard, heard_of}

-- who owns each circuit, the rows, and for each sender how many messages
-- were accepted and how many refused
pub record Day : Type 0 where
  pub owners : List ℕ
  pub rows : Rows
  pub accepted : List ℕ
  pub refused : List ℕ

-- the four together
abbrev pub day : List ℕ → Rows → List ℕ → List ℕ → Day
day owners rows accepted refused =
    record { owners = owners; rows = rows; accepted = accepted; refused = refused }

-- a book as it comes: what is awaited, the octets that have come of it, and the tables so far
pub record Machine : Type 0 where
  pub awaits : Await
  pub got : List ℕ
  pub day : Day

-- the three together
abbrev pub machine : Await → List ℕ → Day → Machine
machine a got t = record { awaits = a; got = got; day = t }

-- nobody owns a circuit
unfoldable pub nobody : List ℕ
nobody = replicate 4096 0

-- a counter for each of 256 senders, all 0
unfoldable pub zeros : List ℕ
zeros = replicate 256 0

-- nothing has come
abbrev pub start : Machine
start = machine SpanCount [] (day nobody at_first_lem zeros zeros)

-- one more, in a counter of 16 bits
abbrev pub one_more_lem : List ℕ → ℕ → List ℕ
one_more_lem counters q = set counters q ((octet counters q + 1) % 65536)

-- the rows after a message, and one more in the sender's counter: of the
-- accepted, or of the refused
abbrev pub counted_if : Bool → ℕ → Heard → Day → Day
counted_if true q h t = day t.owners h.rows (one_more_lem t.accepted q) t.refused
counted_if false q h t = day t.owners h.rows t.accepted (one_more_lem t.refused q)

-- a message was heard and counted
unfoldable pub heard_in_lem : ℕ → List ℕ → Day → Day
heard_in_lem sender m t = let h =
    heard_of t.owners t.rows sender m in counted_if h.taken sender h t

-- the tables have the lengths that a replay has
abbrev pub sized_by : ℕ → ℕ → ℕ → ℕ → Bool
sized_by owners rows accepted refused =
    when eqb owners 4096
    then (when eqb rows 4096 then (when eqb accepted 256 then eqb refused 256 else false)
    else false) else false

-- the same of the tables
abbrev pub day_sized : Day → Bool
day_sized t =
    sized_by (length t.owners) (length t.rows) (length t.accepted) (length t.refused)

-- what `begin` leaves: every table 0, or, where one has another length, no
-- book and the tables as they were
abbrev pub begun_of : Day → Machine
begun_of t = when day_sized t then start else machine Bad [] t
