-- The replay of a book by the circuit rules, and its counts. Nothing here says how a book is read.
use Rattle.std.specs.Prelude.{ℕ, ◌+◌, List, [], ◌∷◌, Bool, false, not, eqb}
use Rattle.octets.specs.Choice.{when◌then◌else◌}
use Rattle.tallies.specs.declared.Tally.{Tally}
use Rattle.octets.specs.Applied.{spread}
use Rattle.book.specs.Book.{Span, Recorded, Book}
use Rattle.day.specs.Hub.{Rows, at_first_lem, heard_of}
use Rattle.day.specs.Day.{nobody}
use Rattle.tallies.specs.Lines.{tally, lines_for}
use Rattle.tallies.specs.Reports.{busy_of_lem}

-- each span spread over the owners
unfoldable pub owners_from : List ℕ → List Span → List ℕ
owners_from owners [] = owners
owners_from owners (s ∷ ss) = owners_from (spread owners s.first s.last s.sender) ss

-- who owns each circuit
abbrev pub owners_of : Book → List ℕ
owners_of b = owners_from nobody b.spans

-- a message's sender, and whether it was accepted
pub record Fate : Type 0 where
  pub sender : ℕ
  pub taken : Bool

-- the messages in turn
unfoldable pub outcomes : List ℕ → Rows → List Recorded → List Fate
outcomes owners rows [] = []
outcomes owners rows (s ∷ ss) =
    record { sender = s.sender; taken = (heard_of owners rows s.sender s.message).taken }
    ∷ outcomes owners (heard_of owners rows s.sender s.message).rows ss

-- the rows after all of them
unfoldable pub rows_at_end : List ℕ → Rows → List Recorded → Rows
rows_at_end owners rows [] = rows
rows_at_end owners rows (s ∷ ss) =
    rows_at_end owners (heard_of owners rows s.sender s.message).rows ss

-- how many of a list pass a test
unfoldable pub count : {A : Type 0} → (A → Bool) → List A → ℕ
count test [] = 0
count test (x ∷ xs) = (when test x then 1 else 0) + count test xs

-- the message is q's
abbrev pub comes_from : ℕ → Recorded → Bool
comes_from q s = eqb s.sender q

-- it is q's, and was accepted
abbrev pub accepted_from : ℕ → Fate → Bool
accepted_from q o = when eqb o.sender q then o.taken else false

-- it is q's, and was refused
abbrev pub refused_from : ℕ → Fate → Bool
refused_from q o = when eqb o.sender q then not o.taken else false

-- R63. a sender's four numbers, each its count over the replay
abbrev pub tally_of : Book → ℕ → Tally
tally_of b q =
    tally
    (count (comes_from q) b.entries)
    (count (accepted_from q) (outcomes (owners_of b) at_first_lem b.entries))
    (count (refused_from q) (outcomes (owners_of b) at_first_lem b.entries))
    (busy_of_lem (owners_of b) (rows_at_end (owners_of b) at_first_lem b.entries) q 0 4096)

-- the lines of a book
abbrev pub lines_of : Book → List ℕ
lines_of b = lines_for (tally_of b)

-- the messages of one sender, in their order
unfoldable pub own_entries : ℕ → List Recorded → List Recorded
own_entries q [] = []
own_entries q (s ∷ ss) = when eqb s.sender q then s ∷ own_entries q ss else own_entries q ss

-- the book with the other senders' messages left out
abbrev pub own_book : ℕ → Book → Book
own_book q b = record { spans = b.spans; entries = own_entries q b.entries }
