-- Octets with one of the four faults are no good book's.
use Prim.Native.Nat.{ℕ, ◌+◌, ◌<◌, ◌≤◌}
use mathlib.Core.Path.{◌≡◌, sym, ◌∙◌, ap, subst}
use mathlib.Core.List.{List, [], ◌∷◌, ◌++◌, append_assoc}
use mathlib.Core.Logic.{⊎_elim, ◌↔◌}
use native.Mathlib.Omega.{arith}
use lib.ListN.{length, length-append}
use Rattle.octets.specs.Octet.{AllOctets}
use Rattle.book.specs.Book.{Span, Recorded, Book, word, span_octets, head_octets, spans_octets, entries_octets, book_octets, GoodSpan, Ascending, AllEntries, Good}
use Rattle.book.specs.Faults.{next_after, BadSpanIn, LongIn, LeftOver, CutOff, in_count, in_span, in_second_count, in_message, Faulty}
use Rattle.book.proofs.One.{word-front, front-one}
use Rattle.book.proofs.Judged.{BookOr, is_book, is_none, book-or-fault}

-- ---- the first spans of a list: what is left after them
pub record SpansAfter (before us : List Span) (t more : List ℕ) : Type 0 where
  pub left : List Span
  pub count : length before + length left ≡ length us
  pub rest : t ≡ spans_octets left ++ more
  pub good : (next : ℕ) → Ascending next us → Ascending (next_after next before) left

-- one span stands at the front
span-front : (s u : Span) (xs ys : List ℕ) → span_octets s ++ xs ≡ span_octets u ++ ys → (s ≡ u) × (xs ≡ ys)
span-front s u xs ys e =
    let f = word-front s.first u.first _ _ e in
    let l = word-front s.last u.last _ _ f.1 in
    let q : s.sender ≡ u.sender = cc l.1 in
    ((λ i. record { first = f.0 i; last = l.0 i; sender = q i }), cc l.1)

spans-after : (before us : List Span) (t more : List ℕ) → length before ≤ length us → spans_octets before ++ t ≡ spans_octets us ++ more → SpansAfter before us t more
unfolding spans_octets
spans-after [] us t more h e = record { left = us; count = omega arith; rest = e; good = λ next a. a }
spans-after (s ∷ ss) [] t more h e = absurd (omega arith)
spans-after (s ∷ ss) (u ∷ us) t more h e =
    let f = span-front s u (spans_octets ss ++ t) (spans_octets us ++ more) (sym (append_assoc (span_octets s) (spans_octets ss) t) ∙ e ∙ append_assoc (span_octets u) (spans_octets us) more) in
    let r = spans-after ss us t more (omega arith) f.1 in
    record { left = r.left; count = omega (arith, r.count); rest = r.rest; good = λ next a. subst (λ (x : Span). Ascending (next_after (x.last + 1) ss) r.left) (sym f.0) (r.good (u.last + 1) a.1) }

-- ---- the first messages of a list
pub record EntriesAfter (before us : List Recorded) (t : List ℕ) : Type 0 where
  pub left : List Recorded
  pub count : length before + length left ≡ length us
  pub rest : t ≡ entries_octets left
  pub good : AllEntries us → AllEntries left

-- a head stands at the front
head-front : (sender size : ℕ) (u : Recorded) (xs ys : List ℕ) → (sender ∷ word size) ++ xs ≡ head_octets u ++ ys → (size ≡ length u.message) × (xs ≡ ys)
head-front sender size u xs ys e =
    let w : word size ++ xs ≡ word (length u.message) ++ ys = cc in
    word-front size (length u.message) xs ys w

entries-after : (before us : List Recorded) (t : List ℕ) → length before ≤ length us → entries_octets before ++ t ≡ entries_octets us → EntriesAfter before us t
unfolding entries_octets
entries-after [] us t h e = record { left = us; count = omega arith; rest = e; good = λ g. g }
entries-after (s ∷ ss) [] t h e = absurd (omega arith)
entries-after (s ∷ ss) (u ∷ us) t h e =
    let f = head-front s.sender (length s.message) u ((s.message ++ entries_octets ss) ++ t) (u.message ++ entries_octets us) e in
    let m = front-one s.message u.message (entries_octets ss ++ t) (entries_octets us) f.0 (sym (append_assoc s.message (entries_octets ss) t) ∙ f.1) in
    let r = entries-after ss us t (omega arith) m.1 in
    record { left = r.left; count = omega (arith, r.count); rest = r.rest; good = λ g. r.good g.1 }

-- ---- each fault
module _ (b : Book) (g : Good b) where
  -- a book's own octets, from its first count on
  tail_of : List ℕ
  tail_of = word (length b.entries) ++ entries_octets b.entries

  book-front : {xs : List ℕ} (n : ℕ) (rest : List ℕ) → book_octets b ≡ xs → word n ++ rest ≡ xs → (n ≡ length b.spans) × (rest ≡ spans_octets b.spans ++ tail_of)
  unfolding book_octets tail_of
  book-front n rest e w = word-front n (length b.spans) rest _ (w ∙ sym e)

  -- after all spans
  spans_all : (ss : List Span) (rest : List ℕ) → length ss ≡ length b.spans → spans_octets ss ++ rest ≡ spans_octets b.spans ++ tail_of → rest ≡ tail_of
  unfolding spans_octets
  spans_all ss rest l e = go (spans-after ss b.spans rest tail_of (omega arith) e)
    where
      go : SpansAfter ss b.spans rest tail_of → rest ≡ tail_of
      go r = none r.left r.count r.rest
        where
          none : (left : List Span) → length ss + length left ≡ length b.spans → rest ≡ spans_octets left ++ tail_of → rest ≡ tail_of
          none [] c q = q
          none (x ∷ left) c q = absurd (omega arith)

  bad-fault : {xs : List ℕ} → book_octets b ≡ xs → BadSpanIn xs → ⊥
  unfolding spans_octets
  bad-fault e x =
      let f = book-front x.counted _ e x.whole in
      let r = spans-after x.before b.spans (span_octets x.span ++ x.rest) tail_of (let k = f.0 in omega (arith, x.fewer)) f.1 in
      go r.left r.rest (r.good 0 g.spans) (let k = f.0 in omega (arith, x.fewer, r.count))
    where
      go : (left : List Span) → span_octets x.span ++ x.rest ≡ spans_octets left ++ tail_of → Ascending (next_after 0 x.before) left → 0 < length left → ⊥
      go [] q a h = omega arith
      go (v ∷ left) q a h = x.bad (subst (GoodSpan (next_after 0 x.before)) (sym (span-front x.span v x.rest (spans_octets left ++ tail_of) (q ∙ append_assoc (span_octets v) (spans_octets left) tail_of)).0) a.0)

  -- what is left of the messages after some of them
  messages-left : (ss : List Span) (n : ℕ) (before : List Recorded) (t : List ℕ) {xs : List ℕ} → book_octets b ≡ xs → length before ≤ n → word (length ss) ++ (spans_octets ss ++ (word n ++ (entries_octets before ++ t))) ≡ xs → (n ≡ length b.entries) × EntriesAfter before b.entries t
  unfolding tail_of
  messages-left ss n before t e h w =
      let f = book-front (length ss) _ e w in
      let s : word n ++ (entries_octets before ++ t) ≡ tail_of = spans_all ss _ f.0 f.1 in
      let k = word-front n (length b.entries) (entries_octets before ++ t) (entries_octets b.entries) s in
      (k.0, entries-after before b.entries t (let z = k.0 in omega arith) k.1)

  long-fault : {xs : List ℕ} → book_octets b ≡ xs → LongIn xs → ⊥
  unfolding entries_octets
  long-fault e x =
      let k = messages-left x.spans x.counted x.before _ e (omega (arith, x.fewer)) x.whole in
      go k.1.left k.1.rest (k.1.good g.entries) (let z = k.0 in omega (arith, x.fewer, k.1.count))
    where
      go : (left : List Recorded) → (x.sender ∷ word x.size) ++ x.rest ≡ entries_octets left → AllEntries left → 0 < length left → ⊥
      go [] q a h = omega arith
      go (v ∷ left) q a h = let s = (head-front x.sender x.size v x.rest (v.message ++ entries_octets left) q).0 in omega (arith, s, x.long, a.0.short)

  over-fault : {xs : List ℕ} → book_octets b ≡ xs → LeftOver xs → ⊥
  unfolding book_octets entries_octets
  over-fault e x =
      let c = x.book in
      let w = sym (ap (λ (l : List ℕ). word (length c.spans) ++ l) (append_assoc (spans_octets c.spans) (word (length c.entries) ++ entries_octets c.entries) x.rest)) ∙ x.whole in
      let k = messages-left c.spans (length c.entries) c.entries x.rest e (omega arith) w in
      go k.1.left k.1.rest (let z = k.0 in omega (arith, k.1.count))
    where
      go : (left : List Recorded) → x.rest ≡ entries_octets left → length left ≡ 0 → ⊥
      go [] q h = x.some q
      go (v ∷ left) q h = omega arith

  cut-fault : {xs : List ℕ} → book_octets b ≡ xs → CutOff xs → ⊥
  unfolding book_octets spans_octets entries_octets tail_of
  cut-fault e (in_count h) = let n = ap length e in omega (arith, n)
  cut-fault e (in_span counted before tail l a h w) =
      let f = book-front counted _ e w in
      let r = spans-after before b.spans tail tail_of (let k = f.0 in omega arith) f.1 in
      go r.left r.rest (let k = f.0 in omega (arith, r.count))
    where
      go : (left : List Span) → tail ≡ spans_octets left ++ tail_of → 0 < length left → ⊥
      go [] q z = omega arith
      go (v ∷ left) q z = let n = ap length q in omega (arith, n, h)
  cut-fault e (in_second_count spans tail a h w) =
      let f = book-front (length spans) _ e w in
      let n = ap length (spans_all spans tail f.0 f.1) in
      omega (arith, n, h)
  cut-fault e (in_message spans counted before tail a l es p w) =
      let k = messages-left spans counted before tail e (omega arith) w in
      go k.1.left k.1.rest (let z = k.0 in omega (arith, k.1.count))
    where
      go : (left : List Recorded) → tail ≡ entries_octets left → 0 < length left → ⊥
      go [] q z = omega arith
      go (v ∷ left) q z =
          ⊎_elim
          (λ (h : length tail < 3). let n = ap length q in omega (arith, n, h))
          (λ t.
          let s = head-front t.0 t.1 v t.2 (v.message ++ entries_octets left) (t.5 ∙ q) in
          let n = ap length s.1 in
          omega (arith, n, s.0, t.4, length-append v.message (entries_octets left)))
          p

-- the four faults, and no others, make octets no book
pub faulty-exactly : (xs : List ℕ) → AllOctets xs → Faulty xs ↔ ((b : Book) → Good b → book_octets b ≡ xs → ⊥)
faulty-exactly xs o =
    ((λ f b g e. ⊎_elim (cut-fault b g e) (λ r. ⊎_elim (over-fault b g e) (λ s. ⊎_elim (bad-fault b g e) (long-fault b g e) s) r) f), λ n. go n (book-or-fault xs o))
  where
    go : ((b : Book) → Good b → book_octets b ≡ xs → ⊥) → BookOr xs → Faulty xs
    go n (is_book b g e) = absurd (n b g e)
    go n (is_none f) = f
