-- What comes next in a book whose octets come one by one, from the numbers so far.
use Rattle.std.specs.Prelude.{ℕ, ◌+◌, ◌*◌, List, Bool, true, false, eqb, ltb}
use Rattle.octets.specs.Octet.{octet}
use Rattle.octets.specs.Choice.{when◌then◌else◌}
use Rattle.book.specs.declared.Await.{Await}
use Rattle.book.specs.declared.Await.TheVariants.{SpanCount, Span, MessageCount, Head, Body, Done, Bad}

-- how many octets are awaited; none where any octet is one too many
abbrev pub want_of : Await → ℕ
want_of SpanCount = 2
want_of (Span left next) = 5
want_of MessageCount = 2
want_of (Head left) = 3
want_of (Body left sender size) = size
want_of Done = 0
want_of Bad = 0

-- the number in two octets, low first
abbrev pub pair_at : List ℕ → ℕ → ℕ
pair_at m i = octet m i + 256 * octet m (i + 1)

-- n spans are left, from circuit `next` on
abbrev pub spans_await_lem : ℕ → ℕ → Await
spans_await_lem n next = when eqb n 0 then MessageCount else Span n next

-- n messages are left
abbrev pub entries_await_lem : ℕ → Await
entries_await_lem n = when eqb n 0 then Done else Head n

-- a span that is not ascending, not disjoint, beyond the circuits, or nobody's
abbrev pub bad_span_lem : ℕ → ℕ → ℕ → ℕ → Bool
bad_span_lem next first last sender =
    when ltb first next then true
    else (when ltb last first then true else (when ltb 4095 last then true else eqb sender 0))

-- whether all of a book has come
abbrev pub is_done : Await → Bool
is_done SpanCount = false
is_done (Span left next) = false
is_done MessageCount = false
is_done (Head left) = false
is_done (Body left sender size) = false
is_done Done = true
is_done Bad = false
