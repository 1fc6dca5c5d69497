-- A book, over all of its octets: two sections, each after its count.
use Rattle.std.specs.Prelude.{ℕ, ◌+◌, ◌/◌, ◌%◌, ◌≤◌, List, [], ◌∷◌, ◌++◌, length}
use Rattle.octets.specs.Octet.{AllOctets}

-- circuits first to last are the sender's
pub record Span : Type 0 where
  pub first : ℕ
  pub last : ℕ
  pub sender : ℕ

-- a recorded message: its sender and its octets
pub record Recorded : Type 0 where
  pub sender : ℕ
  pub message : List ℕ

-- the two sections
pub record Book : Type 0 where
  pub spans : List Span
  pub entries : List Recorded

-- two octets, low first
abbrev pub word : ℕ → List ℕ
word n = n % 256 ∷ n / 256 ∷ []

-- first circuit, last circuit, two octets each, sender in one
abbrev pub span_octets : Span → List ℕ
span_octets s = word s.first ++ (word s.last ++ (s.sender ∷ []))

-- sender in one, length in two
abbrev pub head_octets : Recorded → List ℕ
head_octets s = s.sender ∷ word (length s.message)

-- the first section, after its count
unfoldable pub spans_octets : List Span → List ℕ
spans_octets [] = []
spans_octets (s ∷ ss) = span_octets s ++ spans_octets ss

-- the second section, after its count
unfoldable pub entries_octets : List Recorded → List ℕ
entries_octets [] = []
entries_octets (s ∷ ss) = head_octets s ++ (s.message ++ entries_octets ss)

-- R59. each section after its count, two octets, low first
unfoldable pub book_octets : Book → List ℕ
book_octets b =
    word (length b.spans)
    ++ (spans_octets b.spans ++ (word (length b.entries) ++ entries_octets b.entries))

-- R60. from circuit `next` on, first not above last, last at most 4095, a
-- sender from 1 in one octet
pub record GoodSpan (next : ℕ) (s : Span) : Type 0 where
  pub above : next ≤ s.first
  pub upwards : s.first ≤ s.last
  pub circuits : s.last ≤ 4095
  pub somebody : 1 ≤ s.sender
  pub one : s.sender ≤ 255

-- ascending and disjoint
abbrev pub Ascending : ℕ → List Span → Type 0
Ascending next [] = Unit {0}
Ascending next (s ∷ ss) = GoodSpan next s × Ascending (s.last + 1) ss

-- R60. a sender in one octet, a message of at most 268
pub record GoodEntry (s : Recorded) : Type 0 where
  pub one : s.sender ≤ 255
  pub short : length s.message ≤ 268
  pub octets : AllOctets s.message

-- each message
abbrev pub AllEntries : List Recorded → Type 0
AllEntries [] = Unit {0}
AllEntries (s ∷ ss) = GoodEntry s × AllEntries ss

-- both counts in two octets, the spans in their order, each message as it may be
pub record Good (b : Book) : Type 0 where
  pub span_count : length b.spans ≤ 65535
  pub entry_count : length b.entries ≤ 65535
  pub spans : Ascending 0 b.spans
  pub entries : AllEntries b.entries
