-- The lines of a day, from each sender's four numbers.
use Rattle.std.specs.Prelude.{ℕ, ◌+◌, ◌≤◌, zero, suc, ◌*◌, List, [], ◌∷◌, ◌++◌, eqb}
use Rattle.lines.specs.Lines.{counted}
use Rattle.octets.specs.Choice.{when◌then◌else◌}
use Rattle.words.specs.Said.{said}
use Rattle.printing.specs.Shown.{decimal_of}
use Rattle.tallies.specs.declared.Tally.{Tally}

-- messages, accepted, refused, circuits busy at the end
abbrev pub tally : ℕ → ℕ → ℕ → ℕ → Tally
tally m a r b = record { messages = m; accepted = a; refused = r; busy = b }

-- number by number
abbrev pub added : Tally → Tally → Tally
added s t =
    tally (s.messages + t.messages) (s.accepted + t.accepted) (s.refused + t.refused) (s.busy
    + t.busy)

-- a number after a space
abbrev pub spaced : ℕ → List ℕ
spaced n = counted " " n

-- the four numbers, each after a space, and LF
unfoldable pub four_numbers : Tally → List ℕ
four_numbers t =
    spaced t.messages
    ++ (spaced t.accepted ++ (spaced t.refused ++ (spaced t.busy ++ (10 ∷ []))))

-- a sender's line: its number, and its four numbers
abbrev pub sender_line : ℕ → Tally → List ℕ
sender_line q t = decimal_of q ++ four_numbers t

-- the line of the sums
abbrev pub all_line : Tally → List ℕ
all_line t = said "all" ++ four_numbers t

-- R63. the line of a sender that sent something
abbrev pub line_of : ℕ → Tally → List ℕ
line_of q t = when eqb t.messages 0 then [] else sender_line q t

-- its numbers, where there is a line of them
abbrev pub shown_of : Tally → Tally
shown_of t = when eqb t.messages 0 then tally 0 0 0 0 else t

-- the lines of the n senders from q on
unfoldable pub lines_from : (ℕ → Tally) → ℕ → ℕ → List ℕ
lines_from f q zero = []
lines_from f q (suc n) = line_of q (f q) ++ lines_from f (suc q) n

-- the four sums over those lines
unfoldable pub sums_from : (ℕ → Tally) → ℕ → ℕ → Tally
sums_from f q zero = tally 0 0 0 0
sums_from f q (suc n) = added (shown_of (f q)) (sums_from f (suc q) n)

-- a line for each sender that sent something, ascending, and then the sums
unfoldable pub lines_for : (ℕ → Tally) → List ℕ
lines_for f = lines_from f 0 256 ++ all_line (sums_from f 0 256)

-- numbers of at most n senders
pub record Below (t : Tally) (n : ℕ) : Type 0 where
  pub messages : t.messages ≤ 131070 * n
  pub accepted : t.accepted ≤ 65535 * n
  pub refused : t.refused ≤ 65535 * n
  pub busy : t.busy ≤ 4096 * n
