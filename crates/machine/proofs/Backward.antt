-- Octets after which the book has ended are those of a good book. So any others are refused.
use Prim.Native.Nat.{ℕ, zero, suc, ◌+◌, ◌-◌, ◌<◌, ◌≤◌}
use mathlib.Core.Path.{◌≡◌, refl, sym, ◌∙◌, ap, subst}
use mathlib.Core.Bool.{Bool, true, false}
use mathlib.Core.List.{List, [], ◌∷◌, ◌++◌, append_assoc, append-nil}
use mathlib.Core.Logic.{⊎_elim}
use native.Mathlib.Omega.{arith}
use borrow.Author.Tests.{ltb-false, eqb-true, eqb-false}
use lib.Dec.{ltb, eqb}
use lib.ListN.{length}
use Rattle.octets.specs.Octet.{AllOctets}
use Rattle.octets.specs.Choice.{when◌then◌else◌}
use Rattle.book.specs.declared.Await.{Await}
use Rattle.book.specs.declared.Await.TheVariants.{SpanCount, Span, MessageCount, Head, Body, Done, Bad}
use Rattle.book.specs.Book.{Span as Owned, Recorded, Book, word, span_octets, head_octets, spans_octets, entries_octets, book_octets, GoodSpan, Ascending, GoodEntry, AllEntries, Good}
use Rattle.book.specs.Awaits.{want_of, spans_await_lem, entries_await_lem, bad_span_lem}
use Rattle.book.proofs.Spans.{span-passed, spans-more, entries-more}
use Rattle.book.proofs.Parts.{Split, split, two, five, three}
use Rattle.day.specs.Hub.{at_first_lem}
use Rattle.day.specs.Day.{nobody, Day, day, Machine, machine, heard_in_lem, zeros, start}
use Rattle.tallies.specs.Reports.{no_book, text_of, text}
use Rattle.machine.specs.Machine.{owned, span_come, head_come, feed_of}
use Rattle.machine.proofs.Feeding.{step-over, feed-short, feed-bad}
use Rattle.machine.proofs.Forward.{feed-span-count, feed-entry-count, feed-span, feed-spans, feed-head, feed-body, feed-entries, owned_all, heard_all}
use Rattle.octets.proofs.Octet.{octets-left, octets-right}

-- ---- the book has ended
abbrev Ends : Machine → List ℕ → Type 0
Ends m xs = (feed_of m xs).awaits ≡ Done

bad-never : (xs : List ℕ) (t : Day) → Ends (machine Bad [] t) xs → ⊥
bad-never xs t e =
    let b : (feed_of (machine Bad [] t) xs).awaits ≡ Bad = ap (λ (m : Machine). m.awaits) (feed-bad xs t) in
    let z : ◌≡◌ {A = ℕ} 0 1 = cc in omega arith

-- too short
short-never : (a : Await) (xs : List ℕ) (t : Day) → length xs < want_of a → (a ≡ Done → ⊥) → Ends (machine a [] t) xs → ⊥
short-never a xs t h n e = n (sym (feed-short a [] xs t (omega arith)) ∙ e)

-- nothing may come after the end
end-only : (xs : List ℕ) (t : Day) → Ends (machine Done [] t) xs → xs ≡ []
unfolding feed_of
end-only [] t e = refl
end-only (x ∷ xs) t e = absurd (bad-never xs t (ap (λ (m : Machine). (feed_of m xs).awaits) (sym (step-over Done [] t x refl)) ∙ e))

-- a span that was taken is good
span-taken : (next : ℕ) (s : Owned) → s.sender ≤ 255 → bad_span_lem next s.first s.last s.sender ≡ false → GoodSpan next s
span-taken next s h e =
    let p = span-passed next s.first s.last s.sender e in
    record { above = p.0; upwards = p.1; circuits = p.2; somebody = omega (arith, p.3); one = h }

-- ---- one of each
-- what is awaited has come whole
whole_back : (a : Await) (xs : List ℕ) (t : Day) → (a ≡ Done → ⊥) → Ends (machine a [] t) xs → Split (want_of a) xs
whole_back a xs t n e = ⊎_elim (λ h. absurd (short-never a xs t h n e)) (λ p. p) (split (want_of a) xs)

-- the test of a choice of machines, one of which never ends
not-bad : (b : Bool) (m : Machine) (xs : List ℕ) (t : Day) → Ends (when b then machine Bad [] t else m) xs → (b ≡ false) × Ends m xs
not-bad true m xs t e = absurd (bad-never xs t e)
not-bad false m xs t e = (refl, e)

pub record CountBack (xs : List ℕ) (onward : ℕ → Machine) : Type 0 where
  pub n : ℕ
  pub rest : List ℕ
  pub low : n ≤ 65535
  pub whole : word n ++ rest ≡ xs
  pub ends : Ends (onward n) rest

count-back : (a : Await) (onward : ℕ → Machine) (xs : List ℕ) (t : Day) → (a ≡ Done → ⊥) → want_of a ≡ 2 → ((n : ℕ) (rest : List ℕ) → feed_of (machine a [] t) (word n ++ rest) ≡ feed_of (onward n) rest) → AllOctets xs → Ends (machine a [] t) xs → CountBack xs onward
count-back a onward xs t d w f o e =
    let p = whole_back a xs t d e in
    let x = two p.front (p.size ∙ w) (octets-left p.front p.rest p.whole o) in
    let q : word x.0 ++ p.rest ≡ xs = ap (λ (l : List ℕ). l ++ p.rest) x.1 ∙ p.whole in
    record {
      n = x.0;
      rest = p.rest;
      low = x.2;
      whole = q;
      ends = ap (λ (m : Machine). m.awaits) (sym (f x.0 p.rest) ∙ ap (feed_of (machine a [] t)) q) ∙ e;
    }

pub record SpanBack (left next : ℕ) (xs : List ℕ) (t : Day) : Type 0 where
  pub span : Owned
  pub rest : List ℕ
  pub good : GoodSpan next span
  pub whole : span_octets span ++ rest ≡ xs
  pub ends : Ends (machine (spans_await_lem (left - 1) (span.last + 1)) [] (owned span.first span.last span.sender t)) rest

span-back : (left next : ℕ) (xs : List ℕ) (t : Day) → AllOctets xs → Ends (machine (Span left next) [] t) xs → SpanBack left next xs t
span-back left next xs t o e =
    let p = whole_back (Span left next) xs t (λ q. let z : ◌≡◌ {A = ℕ} 0 1 = cc in omega arith) e in
    let x = five p.front p.size (octets-left p.front p.rest p.whole o) in
    let s = x.0 in
    let q : span_octets s ++ p.rest ≡ xs = ap (λ (l : List ℕ). l ++ p.rest) x.1 ∙ p.whole in
    let r : Ends (span_come left next s.first s.last s.sender t) p.rest = ap (λ (m : Machine). m.awaits) (sym (feed-span left next s p.rest t) ∙ ap (feed_of (machine (Span left next) [] t)) q) ∙ e in
    let b = not-bad (bad_span_lem next s.first s.last s.sender) _ p.rest t r in
    record { span = s; rest = p.rest; good = span-taken next s x.2 b.0; whole = q; ends = b.1 }

pub record EntryBack (left : ℕ) (xs : List ℕ) (t : Day) : Type 0 where
  pub entry : Recorded
  pub rest : List ℕ
  pub good : GoodEntry entry
  pub whole : head_octets entry ++ (entry.message ++ rest) ≡ xs
  pub ends : Ends (machine (entries_await_lem (left - 1)) [] (heard_in_lem entry.sender entry.message t)) rest

-- the octets of a message, after its head
body_back : (left sender n : ℕ) (rest : List ℕ) (t : Day) → sender ≤ 255 → n ≤ 268 → AllOctets rest → Ends (machine (Body left sender n) [] t) rest → (0 < n) → EntryBack left ((sender ∷ word n) ++ rest) t
body_back left sender n rest t h l o e z =
    let p = whole_back (Body left sender n) rest t (λ q. let z : ◌≡◌ {A = ℕ} 0 1 = cc in omega arith) e in
    let m = p.front in
    let r : feed_of (machine (Body left sender n) [] t) rest ≡ feed_of (machine (entries_await_lem (left - 1)) [] (heard_in_lem sender m t)) p.rest =
    ap (λ (k : ℕ). feed_of (machine (Body left sender k) [] t) rest) (sym p.size) ∙ ap (feed_of (machine (Body left sender (length m)) [] t)) (sym p.whole) ∙ feed-body left sender m p.rest t (omega (arith, p.size)) in
    record {
      entry = record { sender = sender; message = m };
      rest = p.rest;
      good = record { one = h; short = omega (arith, p.size); octets = octets-left m p.rest p.whole o };
      whole = λ i. (sender ∷ word (p.size i)) ++ p.whole i;
      ends = ap (λ (m : Machine). m.awaits) (sym r) ∙ e;
    }

-- a head, and its octets if there are any
head-back : (left sender n : ℕ) (rest : List ℕ) (t : Day) → sender ≤ 255 → AllOctets rest → Ends (head_come left sender n t) rest → EntryBack left ((sender ∷ word n) ++ rest) t
head-back left sender n rest t h o e =
    let b = not-bad (ltb 268 n) (when eqb n 0 then machine (entries_await_lem (left - 1)) [] (heard_in_lem sender [] t) else machine (Body left sender n) [] t) rest t e in
    let l = ltb-false 268 n b.0 in
    go (eqb n 0) refl l b.1
  where
    go : (c : Bool) → eqb n 0 ≡ c → n ≤ 268 → Ends (when c then machine (entries_await_lem (left - 1)) [] (heard_in_lem sender [] t) else machine (Body left sender n) [] t) rest → EntryBack left ((sender ∷ word n) ++ rest) t
    go true p l f = record {
      entry = record { sender = sender; message = [] };
      rest = rest;
      good = record { one = h; short = omega arith; octets = λ i. omega arith };
      whole = λ i. (sender ∷ word (sym (eqb-true n 0 p) i)) ++ rest;
      ends = f;
    }
    go false p l f = body_back left sender n rest t h l o f (let q = eqb-false n 0 p in omega (arith, q))

entry-back : (left : ℕ) (xs : List ℕ) (t : Day) → AllOctets xs → Ends (machine (Head left) [] t) xs → EntryBack left xs t
entry-back left xs t o e =
    let p = whole_back (Head left) xs t (λ q. let z : ◌≡◌ {A = ℕ} 0 1 = cc in omega arith) e in
    let x = three p.front p.size (octets-left p.front p.rest p.whole o) in
    let q : (x.0 ∷ word x.1) ++ p.rest ≡ xs = ap (λ (l : List ℕ). l ++ p.rest) x.2 ∙ p.whole in
    let r : Ends (head_come left x.0 x.1 t) p.rest = ap (λ (m : Machine). m.awaits) (sym (feed-head left x.0 x.1 p.rest t) ∙ ap (feed_of (machine (Head left) [] t)) q) ∙ e in
    subst (λ (l : List ℕ). EntryBack left l t) q (head-back left x.0 x.1 p.rest t x.3 (octets-right p.front p.rest p.whole o) r)

-- ---- as many as were counted
pub record SpansBack (n next : ℕ) (xs : List ℕ) (t : Day) : Type 0 where
  pub spans : List Owned
  pub rest : List ℕ
  pub size : length spans ≡ n
  pub good : Ascending next spans
  pub whole : spans_octets spans ++ rest ≡ xs

less_one : (n : ℕ) → suc n - 1 ≡ n
less_one n = omega arith

spans-back : (n next : ℕ) (xs : List ℕ) (t : Day) → AllOctets xs → Ends (machine (spans_await_lem n next) [] t) xs → SpansBack n next xs t
unfolding spans_octets
spans-back zero next xs t o e = record { spans = []; rest = xs; size = refl; good = tt; whole = refl }
spans-back (suc n) next xs t o e =
    let b = span-back (suc n) next xs t o (ap (λ (a : Await). (feed_of (machine a [] t) xs).awaits) (sym (spans-more n next)) ∙ e) in
    let s = b.span in
    let u = owned s.first s.last s.sender t in
    let o₁ : AllOctets b.rest = octets-right (span_octets s) b.rest b.whole o in
    let r = spans-back n (s.last + 1) b.rest u o₁ (ap (λ (k : ℕ). (feed_of (machine (spans_await_lem k (s.last + 1)) [] u) b.rest).awaits) (sym (less_one n)) ∙ b.ends) in
    record {
      spans = s ∷ r.spans;
      rest = r.rest;
      size = ap suc r.size;
      good = (b.good, r.good);
      whole = append_assoc (span_octets s) (spans_octets r.spans) r.rest ∙ ap (λ (l : List ℕ). span_octets s ++ l) r.whole ∙ b.whole;
    }

pub record EntriesBack (n : ℕ) (xs : List ℕ) (t : Day) : Type 0 where
  pub entries : List Recorded
  pub rest : List ℕ
  pub size : length entries ≡ n
  pub good : AllEntries entries
  pub whole : entries_octets entries ++ rest ≡ xs

entries-back : (n : ℕ) (xs : List ℕ) (t : Day) → AllOctets xs → Ends (machine (entries_await_lem n) [] t) xs → EntriesBack n xs t
unfolding entries_octets
entries-back zero xs t o e = record { entries = []; rest = xs; size = refl; good = tt; whole = refl }
entries-back (suc n) xs t o e =
    let b = entry-back (suc n) xs t o (ap (λ (a : Await). (feed_of (machine a [] t) xs).awaits) (sym (entries-more n)) ∙ e) in
    let s = b.entry in
    let u = heard_in_lem s.sender s.message t in
    let o₁ : AllOctets b.rest = octets-right s.message b.rest refl (octets-right (head_octets s) (s.message ++ b.rest) b.whole o) in
    let r = entries-back n b.rest u o₁ (ap (λ (k : ℕ). (feed_of (machine (entries_await_lem k) [] u) b.rest).awaits) (sym (less_one n)) ∙ b.ends) in
    record {
      entries = s ∷ r.entries;
      rest = r.rest;
      size = ap suc r.size;
      good = (b.good, r.good);
      whole = ap (λ (l : List ℕ). head_octets s ++ l) (append_assoc s.message (entries_octets r.entries) r.rest ∙ ap (λ (l : List ℕ). s.message ++ l) r.whole) ∙ b.whole;
    }

-- ---- the book
pub record BookBack (xs : List ℕ) : Type 0 where
  pub book : Book
  pub good : Good book
  pub whole : book_octets book ≡ xs

-- after the spans, the messages
spans-onward : (n next : ℕ) (xs : List ℕ) (t : Day) (s : SpansBack n next xs t) → Ends (machine (spans_await_lem n next) [] t) xs → Ends (machine MessageCount [] (owned_all s.spans t)) s.rest
spans-onward n next xs t s e =
    ap (λ (m : Machine). m.awaits) (sym (feed-spans s.spans next s.rest t s.good))
    ∙ (λ i. (feed_of (machine (spans_await_lem (s.size i) next) [] t) (s.whole i)).awaits)
    ∙ e

-- and after them nothing
entries-only : (n : ℕ) (xs : List ℕ) (t : Day) (m : EntriesBack n xs t) → Ends (machine (entries_await_lem n) [] t) xs → entries_octets m.entries ≡ xs
entries-only n xs t m e =
    let g : Ends (machine Done [] (heard_all m.entries t)) m.rest =
    ap (λ (x : Machine). x.awaits) (sym (feed-entries m.entries m.rest t m.good))
    ∙ (λ i. (feed_of (machine (entries_await_lem (m.size i)) [] t) (m.whole i)).awaits)
    ∙ e in
    let z : m.rest ≡ [] = end-only m.rest (heard_all m.entries t) g in
    sym (append-nil (entries_octets m.entries)) ∙ ap (λ (l : List ℕ). entries_octets m.entries ++ l) (sym z) ∙ m.whole

never : (a : Await) → want_of a ≡ 2 → a ≡ Done → ⊥
never a w e = let z : ◌≡◌ {A = ℕ} 0 2 = sym (ap want_of e) ∙ w in omega arith

-- the second section
pub record Second (xs : List ℕ) : Type 0 where
  pub entries : List Recorded
  pub low : length entries ≤ 65535
  pub good : AllEntries entries
  pub whole : word (length entries) ++ entries_octets entries ≡ xs

second-of : (xs : List ℕ) (t : Day) → AllOctets xs → (d : CountBack xs (λ n. machine (entries_await_lem n) [] t)) → EntriesBack d.n d.rest t → Second xs
second-of xs t o d m = record {
  entries = m.entries;
  low = omega (arith, m.size, d.low);
  good = m.good;
  whole = (λ i. word (m.size i) ++ entries-only d.n d.rest t m d.ends i) ∙ d.whole;
}

second : (xs : List ℕ) (t : Day) → AllOctets xs → Ends (machine MessageCount [] t) xs → Second xs
second xs t o e =
    let d = count-back MessageCount (λ n. machine (entries_await_lem n) [] t) xs t (never MessageCount refl) refl (λ n rest. feed-entry-count n rest t) o e in
    second-of xs t o d (entries-back d.n d.rest t (octets-right (word d.n) d.rest d.whole o) d.ends)

book-of : (xs : List ℕ) (t : Day) (c : CountBack xs (λ n. machine (spans_await_lem n 0) [] t)) (s : SpansBack c.n 0 c.rest t) → Second s.rest → BookBack xs
unfolding book_octets
book-of xs t c s m = record {
  book = record { spans = s.spans; entries = m.entries };
  good = record { span_count = omega (arith, s.size, c.low); entry_count = m.low; spans = s.good; entries = m.good };
  whole =
      (λ i. word (s.size i) ++ (spans_octets s.spans ++ m.whole i))
      ∙ ap (λ (l : List ℕ). word c.n ++ l) s.whole
      ∙ c.whole;
}

spans-then : (xs : List ℕ) (t : Day) → AllOctets xs → (c : CountBack xs (λ n. machine (spans_await_lem n 0) [] t)) → (s : SpansBack c.n 0 c.rest t) → AllOctets c.rest → BookBack xs
spans-then xs t o c s o₁ =
    book-of xs t c s
    (second s.rest (owned_all s.spans t) (octets-right (spans_octets s.spans) s.rest s.whole o₁) (spans-onward c.n 0 c.rest t s c.ends))

count-then : (xs : List ℕ) (t : Day) → AllOctets xs → CountBack xs (λ n. machine (spans_await_lem n 0) [] t) → BookBack xs
count-then xs t o c =
    let o₁ : AllOctets c.rest = octets-right (word c.n) c.rest c.whole o in
    spans-then xs t o c (spans-back c.n 0 c.rest t o₁ c.ends) o₁

pub ended-is-book : (xs : List ℕ) → AllOctets xs → Ends start xs → BookBack xs
ended-is-book xs o e =
    let t = day nobody at_first_lem zeros zeros in
    count-then xs t o
    (count-back SpanCount (λ n. machine (spans_await_lem n 0) [] t) xs t (never SpanCount refl) refl (λ n rest. feed-span-count n rest t) o e)

-- octets that are no good book's
text-refused : (a : Await) (t : Day) → (a ≡ Done → ⊥) → text_of a t ≡ no_book
unfolding text_of
text-refused SpanCount t n = refl
text-refused (Span left next) t n = refl
text-refused MessageCount t n = refl
text-refused (Head left) t n = refl
text-refused (Body left sender size) t n = refl
text-refused Done t n = absurd (n refl)
text-refused Bad t n = refl

pub refused-otherwise : (xs : List ℕ) → AllOctets xs → ((b : Book) → Good b → book_octets b ≡ xs → ⊥) → text (feed_of start xs) ≡ no_book
refused-otherwise xs o n =
    text-refused (feed_of start xs).awaits (feed_of start xs).day (λ e. let b = ended-is-book xs o e in n b.book b.good b.whole)
