-- The octets of a good book, from the start on: each count, each span and each
-- message is taken, and the book has ended.
use Prim.Native.Nat.{ℕ, suc, ◌+◌, ◌-◌, ◌<◌, ◌≤◌}
use mathlib.Core.Path.{◌≡◌, refl, sym, ◌∙◌, ap}
use mathlib.Core.Bool.{Bool}
use mathlib.Core.List.{List, [], ◌∷◌, ◌++◌, append_assoc, append-nil}
use native.Mathlib.Omega.{arith}
use borrow.Author.Tests.{le-ltb, ne_eqb}
use lib.ListN.{length}
use Rattle.octets.specs.Choice.{when◌then◌else◌}
use Rattle.book.specs.declared.Await.{Await}
use Rattle.book.specs.declared.Await.TheVariants.{SpanCount, Span, MessageCount, Head, Body, Done, Bad}
use Rattle.book.specs.Book.{Span as Owned, Recorded, Book, word, span_octets, head_octets, spans_octets, entries_octets, book_octets, Ascending, AllEntries, Good}
use Rattle.book.specs.Awaits.{spans_await_lem, entries_await_lem}
use Rattle.day.specs.Hub.{at_first_lem}
use Rattle.day.specs.Day.{nobody, Day, day, Machine, machine, heard_in_lem, zeros, start}
use Rattle.machine.specs.Replay.{owners_from, owners_of}
use Rattle.machine.specs.Machine.{owned, span_come, head_come, completed, feed_of}
use Rattle.machine.proofs.Feeding.{feed-whole}
use Rattle.book.proofs.Spans.{word-said, span-good, spans-more, entries-more}

-- ---- a count
pub feed-span-count : (n : ℕ) (rest : List ℕ) (t : Day) → feed_of (machine SpanCount [] t) (word n ++ rest) ≡ feed_of (machine (spans_await_lem n 0) [] t) rest
unfolding completed
feed-span-count n rest t = feed-whole SpanCount (word n) rest t (omega arith) refl ∙ rw (word-said n)

pub feed-entry-count : (n : ℕ) (rest : List ℕ) (t : Day) → feed_of (machine MessageCount [] t) (word n ++ rest) ≡ feed_of (machine (entries_await_lem n) [] t) rest
unfolding completed
feed-entry-count n rest t = feed-whole MessageCount (word n) rest t (omega arith) refl ∙ rw (word-said n)

-- whatever the span is
pub feed-span : (left next : ℕ) (s : Owned) (rest : List ℕ) (t : Day) → feed_of (machine (Span left next) [] t) (span_octets s ++ rest) ≡ feed_of (span_come left next s.first s.last s.sender t) rest
unfolding completed
feed-span left next s rest t =
    feed-whole (Span left next) (span_octets s) rest t (omega arith) refl ∙ rw (word-said s.first, word-said s.last)

abbrev pub owned_all : List Owned → Day → Day
owned_all ss t = day (owners_from t.owners ss) t.rows t.accepted t.refused

pub feed-spans : (ss : List Owned) (next : ℕ) (rest : List ℕ) (t : Day) → Ascending next ss → feed_of (machine (spans_await_lem (length ss) next) [] t) (spans_octets ss ++ rest) ≡ feed_of (machine MessageCount [] (owned_all ss t)) rest
unfolding spans_octets owners_from
feed-spans [] next rest t g = refl
feed-spans (s ∷ ss) next rest t g =
    ap (λ (a : Await). feed_of (machine a [] t) (span_octets s ++ spans_octets ss ++ rest)) (spans-more (length ss) next)
    ∙ ap (feed_of (machine (Span (suc (length ss)) next) [] t)) (append_assoc (span_octets s) (spans_octets ss) rest)
    ∙ feed-span (suc (length ss)) next s (spans_octets ss ++ rest) t
    ∙ ap (λ (b : Bool). feed_of (when b then machine Bad [] t else machine (spans_await_lem (suc (length ss) - 1) (s.last + 1)) [] (owned s.first s.last s.sender t)) (spans_octets ss ++ rest)) (span-good next s g.0)
    ∙ (let e : suc (length ss) - 1 ≡ length ss = omega arith in ap (λ (k : ℕ). feed_of (machine (spans_await_lem k (s.last + 1)) [] (owned s.first s.last s.sender t)) (spans_octets ss ++ rest)) e)
    ∙ feed-spans ss (s.last + 1) rest (owned s.first s.last s.sender t) g.1

-- ---- the messages
-- whatever the head is
pub feed-head : (left sender n : ℕ) (rest : List ℕ) (t : Day) → feed_of (machine (Head left) [] t) ((sender ∷ word n) ++ rest) ≡ feed_of (head_come left sender n t) rest
unfolding completed
feed-head left sender n rest t = feed-whole (Head left) (sender ∷ word n) rest t (omega arith) refl ∙ rw (word-said n)

-- a message with octets
pub feed-body : (left sender : ℕ) (m rest : List ℕ) (t : Day) → 0 < length m → feed_of (machine (Body left sender (length m)) [] t) (m ++ rest) ≡ feed_of (machine (entries_await_lem (left - 1)) [] (heard_in_lem sender m t)) rest
unfolding completed
feed-body left sender m rest t h = feed-whole (Body left sender (length m)) m rest t h refl

pub feed-entry : (left sender : ℕ) (m rest : List ℕ) (t : Day) → length m ≤ 268 → feed_of (machine (Head left) [] t) ((sender ∷ word (length m)) ++ (m ++ rest)) ≡ feed_of (machine (entries_await_lem (left - 1)) [] (heard_in_lem sender m t)) rest
feed-entry left sender [] rest t h = feed-head left sender 0 rest t
feed-entry left sender (x ∷ m) rest t h =
    feed-head left sender (length (x ∷ m)) (x ∷ m ++ rest) t
    ∙ rw (le-ltb 268 (length (x ∷ m)) h, ne_eqb (length (x ∷ m)) 0 (λ e. omega arith)) (feed-body left sender (x ∷ m) rest t (omega arith))

-- the messages in turn
unfoldable pub heard_all : List Recorded → Day → Day
heard_all [] t = t
heard_all (s ∷ ss) t = heard_all ss (heard_in_lem s.sender s.message t)

pub feed-entries : (ss : List Recorded) (rest : List ℕ) (t : Day) → AllEntries ss → feed_of (machine (entries_await_lem (length ss)) [] t) (entries_octets ss ++ rest) ≡ feed_of (machine Done [] (heard_all ss t)) rest
unfolding entries_octets heard_all
feed-entries [] rest t g = refl
feed-entries (s ∷ ss) rest t g =
    ap (λ (a : Await). feed_of (machine a [] t) (head_octets s ++ (s.message ++ entries_octets ss) ++ rest)) (entries-more (length ss))
    ∙ ap (λ (l : List ℕ). feed_of (machine (Head (suc (length ss))) [] t) (head_octets s ++ l)) (append_assoc s.message (entries_octets ss) rest)
    ∙ feed-entry (suc (length ss)) s.sender s.message (entries_octets ss ++ rest) t g.0.short
    ∙ (let e : suc (length ss) - 1 ≡ length ss = omega arith in ap (λ (k : ℕ). feed_of (machine (entries_await_lem k) [] (heard_in_lem s.sender s.message t)) (entries_octets ss ++ rest)) e)
    ∙ feed-entries ss rest (heard_in_lem s.sender s.message t) g.1

-- ---- the book
abbrev pub replayed : Book → Day
replayed b = heard_all b.entries (day (owners_of b) at_first_lem zeros zeros)

feed-nothing : (m : Machine) → feed_of m [] ≡ m
unfolding feed_of
feed-nothing m = refl

pub feed-book : (b : Book) → Good b → feed_of start (book_octets b) ≡ machine Done [] (replayed b)
unfolding book_octets
feed-book b g =
    feed-span-count (length b.spans) _ (day nobody at_first_lem zeros zeros)
    ∙ feed-spans b.spans 0 _ (day nobody at_first_lem zeros zeros) g.spans
    ∙ feed-entry-count (length b.entries) _ (day (owners_of b) at_first_lem zeros zeros)
    ∙ ap (feed_of (machine (entries_await_lem (length b.entries)) [] (day (owners_of b) at_first_lem zeros zeros))) (sym (append-nil (entries_octets b.entries)))
    ∙ feed-entries b.entries [] (day (owners_of b) at_first_lem zeros zeros) g.entries
    ∙ feed-nothing (machine Done [] (replayed b))
