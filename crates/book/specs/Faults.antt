-- What is wrong with octets that are no book, in the paper's words: cut off, octets left over, a
-- bad span, a message longer than 268.
use Rattle.std.specs.Prelude.{ℕ, ◌+◌, ◌<◌, ◌≤◌, ◌≡◌, List, [], ◌∷◌, ◌++◌, ◌⊎◌, length}
use Rattle.book.specs.Book.{Span, Recorded, Book, word, span_octets, spans_octets, entries_octets, book_octets, GoodSpan, Ascending, AllEntries, Good}

-- the first circuit that a span may have after those
abbrev pub next_after : ℕ → List Span → ℕ
next_after next [] = next
next_after next (s ∷ ss) = next_after (s.last + 1) ss

-- bad span: after fewer good ones than were counted, one that may not stand there
pub record BadSpanIn (xs : List ℕ) : Type 0 where
  pub counted : ℕ
  pub before : List Span
  pub span : Span
  pub rest : List ℕ
  pub fewer : length before < counted
  pub good : Ascending 0 before
  pub bad : GoodSpan (next_after 0 before) span → ⊥
  pub whole : word counted ++ (spans_octets before ++ (span_octets span ++ rest)) ≡ xs

-- message longer than 268: after fewer good ones than were counted, a head that says more octets
pub record LongIn (xs : List ℕ) : Type 0 where
  pub spans : List Span
  pub counted : ℕ
  pub before : List Recorded
  pub sender : ℕ
  pub size : ℕ
  pub rest : List ℕ
  pub good : Ascending 0 spans
  pub fewer : length before < counted
  pub entries : AllEntries before
  pub long : 268 < size
  pub whole : word (length spans)
      ++ (spans_octets spans
      ++ (word counted ++ (entries_octets before ++ ((sender ∷ word size) ++ rest)))) ≡ xs

-- octets left over: a good book, and something after it
pub record LeftOver (xs : List ℕ) : Type 0 where
  pub book : Book
  pub rest : List ℕ
  pub good : Good book
  pub some : rest ≡ [] → ⊥
  pub whole : book_octets book ++ rest ≡ xs

-- less than a message: less than its head, or a head and fewer octets than it says
abbrev pub LessThanOne : List ℕ → Type 0
LessThanOne tail =
    (length tail < 3)
    ⊎ ((sender : ℕ) × (size : ℕ) × (octets : List ℕ) × (size ≤ 268) × (length octets < size)
    × ((sender ∷ word size) ++ octets ≡ tail))

-- cut off: in the first count, in a span, in the second count, or in a message
pub data CutOff (xs : List ℕ) : Type 0 where
  in_count : length xs < 2 → CutOff xs
  in_span : (counted : ℕ) (before : List Span) (tail : List ℕ) → length before < counted
      → Ascending 0 before → length tail < 5 → word counted ++ (spans_octets before ++ tail) ≡ xs
      → CutOff xs
  in_second_count : (spans : List Span) (tail : List ℕ) → Ascending 0 spans → length tail < 2
      → word (length spans) ++ (spans_octets spans ++ tail) ≡ xs → CutOff xs
  in_message : (spans : List Span) (counted : ℕ) (before : List Recorded) (tail : List ℕ)
      → Ascending 0 spans → length before < counted → AllEntries before → LessThanOne tail
      → word (length spans)
      ++ (spans_octets spans ++ (word counted ++ (entries_octets before ++ tail))) ≡ xs
      → CutOff xs

-- R61. one of the four
abbrev pub Faulty : List ℕ → Type 0
Faulty xs = CutOff xs ⊎ (LeftOver xs ⊎ (BadSpanIn xs ⊎ LongIn xs))
