-- Any octets are those of a good book, or have one of the four faults.
use Prim.Native.Nat.{ℕ, zero, suc, ◌+◌, ◌<◌, ◌≤◌}
use mathlib.Core.Path.{◌≡◌, refl, sym, ◌∙◌, ap}
use mathlib.Core.List.{List, [], ◌∷◌, ◌++◌, append_assoc, append-nil}
use mathlib.Core.Logic.{◌⊎◌, inl, inr, ⊎_elim}
use native.Mathlib.Omega.{arith}
use native.Mathlib.Decide.{dec_lt}
use lib.ListN.{length}
use Rattle.octets.specs.Octet.{AllOctets}
use Rattle.octets.proofs.Octet.{octets-left, octets-right}
use Rattle.octets.proofs.Choice.{decided, true-false}
use Rattle.book.specs.Book.{Span, Recorded, Book, word, span_octets, head_octets, spans_octets, entries_octets, book_octets, GoodSpan, Ascending, AllEntries, Good}
use Rattle.book.specs.Awaits.{bad_span_lem}
use Rattle.book.specs.Faults.{next_after, LessThanOne, in_count, in_span, in_second_count, in_message, Faulty}
use Rattle.book.proofs.Spans.{span-good, span-passed}
use Rattle.book.proofs.Parts.{Split, split, two, five, three}

-- ---- one span
span-or : (next : ℕ) (s : Span) → s.sender ≤ 255 → GoodSpan next s ⊎ (GoodSpan next s → ⊥)
span-or next s h =
    ⊎_elim
    (λ e. inr (λ g. true-false e (span-good next s g)))
    (λ e. let p = span-passed next s.first s.last s.sender e in inl (record { above = p.0; upwards = p.1; circuits = p.2; somebody = omega (arith, p.3); one = h }))
    (decided (bad_span_lem next s.first s.last s.sender))

-- ---- n spans from circuit `next` on: all of them, or cut off, or a bad one
pub data SpansOr (n next : ℕ) (xs : List ℕ) : Type 0 where
  all_spans : (ss : List Span) (rest : List ℕ) → length ss ≡ n → Ascending next ss → spans_octets ss ++ rest ≡ xs → SpansOr n next xs
  cut_span : (ss : List Span) (tail : List ℕ) → length ss < n → Ascending next ss → length tail < 5 → spans_octets ss ++ tail ≡ xs → SpansOr n next xs
  bad_one : (ss : List Span) (s : Span) (rest : List ℕ) → length ss < n → Ascending next ss → (GoodSpan (next_after next ss) s → ⊥) → spans_octets ss ++ (span_octets s ++ rest) ≡ xs → SpansOr n next xs

more-spans : (n next : ℕ) (s : Span) (rest xs : List ℕ) → GoodSpan next s → span_octets s ++ rest ≡ xs → SpansOr n (s.last + 1) rest → SpansOr (suc n) next xs
unfolding spans_octets
more-spans n next s rest xs g e (all_spans ss r l a w) = all_spans (s ∷ ss) r (ap suc l) (g, a) (append_assoc (span_octets s) (spans_octets ss) r ∙ ap (λ (x : List ℕ). span_octets s ++ x) w ∙ e)
more-spans n next s rest xs g e (cut_span ss t l a c w) = cut_span (s ∷ ss) t (omega arith) (g, a) c (append_assoc (span_octets s) (spans_octets ss) t ∙ ap (λ (x : List ℕ). span_octets s ++ x) w ∙ e)
more-spans n next s rest xs g e (bad_one ss u r l a b w) = bad_one (s ∷ ss) u r (omega arith) (g, a) b (append_assoc (span_octets s) (spans_octets ss) (span_octets u ++ r) ∙ ap (λ (x : List ℕ). span_octets s ++ x) w ∙ e)

spans-or : (n next : ℕ) (xs : List ℕ) → AllOctets xs → SpansOr n next xs
unfolding spans_octets
spans-or zero next xs o = all_spans [] xs refl tt refl
spans-or (suc n) next xs o =
    ⊎_elim
    (λ h. cut_span [] xs (omega arith) tt h refl)
    (λ p.
    let x = five p.front p.size (octets-left p.front p.rest p.whole o) in
    let w : span_octets x.0 ++ p.rest ≡ xs = ap (λ (l : List ℕ). l ++ p.rest) x.1 ∙ p.whole in
    ⊎_elim
    (λ g. more-spans n next x.0 p.rest xs g w (spans-or n (x.0.last + 1) p.rest (octets-right p.front p.rest p.whole o)))
    (λ b. bad_one [] x.0 p.rest (omega arith) tt b w)
    (span-or next x.0 x.2))
    (split 5 xs)

-- ---- n messages: all of them, or cut off, or one that is too long
pub data EntriesOr (n : ℕ) (xs : List ℕ) : Type 0 where
  all_entries : (es : List Recorded) (rest : List ℕ) → length es ≡ n → AllEntries es → entries_octets es ++ rest ≡ xs → EntriesOr n xs
  cut_entry : (es : List Recorded) (tail : List ℕ) → length es < n → AllEntries es → LessThanOne tail → entries_octets es ++ tail ≡ xs → EntriesOr n xs
  long_one : (es : List Recorded) (sender size : ℕ) (rest : List ℕ) → length es < n → AllEntries es → 268 < size → entries_octets es ++ ((sender ∷ word size) ++ rest) ≡ xs → EntriesOr n xs

ahead : (s : Recorded) (es : List Recorded) (t : List ℕ) {rest xs : List ℕ} → entries_octets es ++ t ≡ rest → head_octets s ++ (s.message ++ rest) ≡ xs → entries_octets (s ∷ es) ++ t ≡ xs
unfolding entries_octets
ahead s es t w e =
    ap (λ (x : List ℕ). head_octets s ++ x) (append_assoc s.message (entries_octets es) t ∙ ap (λ (x : List ℕ). s.message ++ x) w) ∙ e

more-entries : (n : ℕ) (s : Recorded) (rest xs : List ℕ) → AllEntries (s ∷ []) → head_octets s ++ (s.message ++ rest) ≡ xs → EntriesOr n rest → EntriesOr (suc n) xs
more-entries n s rest xs g e (all_entries es r l a w) = all_entries (s ∷ es) r (ap suc l) (g.0, a) (ahead s es r w e)
more-entries n s rest xs g e (cut_entry es t l a c w) = cut_entry (s ∷ es) t (omega arith) (g.0, a) c (ahead s es t w e)
more-entries n s rest xs g e (long_one es q k r l a b w) = long_one (s ∷ es) q k r (omega arith) (g.0, a) b (ahead s es ((q ∷ word k) ++ r) w e)

none_first : (t : List ℕ) {xs : List ℕ} → t ≡ xs → entries_octets [] ++ t ≡ xs
unfolding entries_octets
none_first t e = e

entries-or : (n : ℕ) (xs : List ℕ) → AllOctets xs → EntriesOr n xs
entries-or zero xs o = all_entries [] xs refl tt (none_first xs refl)
entries-or (suc n) xs o =
    ⊎_elim
    (λ h. cut_entry [] xs (omega arith) tt (inl h) (none_first xs refl))
    (λ p.
    let x = three p.front p.size (octets-left p.front p.rest p.whole o) in
    let w : (x.0 ∷ word x.1) ++ p.rest ≡ xs = ap (λ (l : List ℕ). l ++ p.rest) x.2 ∙ p.whole in
    let o₁ : AllOctets p.rest = octets-right p.front p.rest p.whole o in
    body n xs x.0 x.1 p.rest w x.3 o₁ (λ l q. entries-or n l q) (dec_lt 268 x.1) (split x.1 p.rest))
    (split 3 xs)
  where
    body : (n : ℕ) (xs : List ℕ) (sender size : ℕ) (rest : List ℕ) → (sender ∷ word size) ++ rest ≡ xs → sender ≤ 255 → AllOctets rest → ((l : List ℕ) → AllOctets l → EntriesOr n l) → Dec (268 < size) → (length rest < size) ⊎ Split size rest → EntriesOr (suc n) xs
    body n xs sender size rest w h o ih (yes b) d = long_one [] sender size rest (omega arith) tt b (none_first ((sender ∷ word size) ++ rest) w)
    body n xs sender size rest w h o ih (no b) (inl c) = cut_entry [] xs (omega arith) tt (inr (sender, size, rest, omega arith, c, w)) (none_first xs refl)
    body n xs sender size rest w h o ih (no b) (inr p) =
        more-entries n (record { sender = sender; message = p.front }) p.rest xs (record { one = h; short = omega (arith, p.size); octets = octets-left p.front p.rest p.whole o }, tt)
        ((λ i. (sender ∷ word (p.size i)) ++ p.whole i) ∙ w)
        (ih p.rest (octets-right p.front p.rest p.whole o))

-- ---- the whole
pub data BookOr (xs : List ℕ) : Type 0 where
  is_book : (b : Book) → Good b → book_octets b ≡ xs → BookOr xs
  is_none : Faulty xs → BookOr xs

join : (b : Book) (rest : List ℕ) → book_octets b ++ rest ≡ word (length b.spans) ++ (spans_octets b.spans ++ (word (length b.entries) ++ (entries_octets b.entries ++ rest)))
unfolding book_octets
join b rest =
    ap (λ (l : List ℕ). word (length b.spans) ++ l)
    (append_assoc (spans_octets b.spans) (word (length b.entries) ++ entries_octets b.entries) rest)

book-or : (b : Book) (rest : List ℕ) {xs : List ℕ} → Good b → book_octets b ++ rest ≡ xs → BookOr xs
book-or b [] g e = is_book b g (sym (append-nil (book_octets b)) ∙ e)
book-or b (x ∷ rest) g e = is_none (inr (inl (record { book = b; rest = x ∷ rest; good = g; some = λ z. (let n = ap length z in omega (arith, n)); whole = e })))

second-or : (ss : List Span) (n : ℕ) (rest : List ℕ) {xs : List ℕ} → length ss ≤ 65535 → n ≤ 65535 → Ascending 0 ss → word (length ss) ++ (spans_octets ss ++ (word n ++ rest)) ≡ xs → EntriesOr n rest → BookOr xs
second-or ss n rest c k a e (all_entries es r l g w) =
    book-or (record { spans = ss; entries = es }) r (record { span_count = c; entry_count = omega (arith, l); spans = a; entries = g })
    (join (record { spans = ss; entries = es }) r ∙ (λ i. word (length ss) ++ (spans_octets ss ++ (word (l i) ++ w i))) ∙ e)
second-or ss n rest c k a e (cut_entry es t l g p w) = is_none (inl (in_message ss n es t a l g p ((λ i. word (length ss) ++ (spans_octets ss ++ (word n ++ w i))) ∙ e)))
second-or ss n rest c k a e (long_one es q z r l g b w) =
    is_none (inr (inr (inr (record { spans = ss; counted = n; before = es; sender = q; size = z; rest = r; good = a; fewer = l; entries = g; long = b; whole = (λ i. word (length ss) ++ (spans_octets ss ++ (word n ++ w i))) ∙ e }))))

first-or : (n : ℕ) (rest : List ℕ) {xs : List ℕ} → n ≤ 65535 → AllOctets rest → word n ++ rest ≡ xs → SpansOr n 0 rest → BookOr xs
first-or n rest k o e (cut_span ss t l a c w) = is_none (inl (in_span n ss t l a c (ap (λ (x : List ℕ). word n ++ x) w ∙ e)))
first-or n rest k o e (bad_one ss s r l a b w) = is_none (inr (inr (inl (record { counted = n; before = ss; span = s; rest = r; fewer = l; good = a; bad = b; whole = ap (λ (x : List ℕ). word n ++ x) w ∙ e }))))
first-or n rest {xs} k o e (all_spans ss r l a w) =
    let whole : word (length ss) ++ (spans_octets ss ++ r) ≡ xs = (λ i. word (l i) ++ w i) ∙ e in
    let o₁ : AllOctets r = octets-right (spans_octets ss) r w o in
    ⊎_elim
    (λ h. is_none (inl (in_second_count ss r a h whole)))
    (λ p.
    let x = two p.front p.size (octets-left p.front p.rest p.whole o₁) in
    let v : word x.0 ++ p.rest ≡ r = ap (λ (y : List ℕ). y ++ p.rest) x.1 ∙ p.whole in
    second-or ss x.0 p.rest (omega (arith, l)) x.2 a (ap (λ (y : List ℕ). word (length ss) ++ (spans_octets ss ++ y)) v ∙ whole) (entries-or x.0 p.rest (octets-right p.front p.rest p.whole o₁)))
    (split 2 r)

-- a good book, or cut off, or octets left over, or a bad span, or a message longer than 268
pub book-or-fault : (xs : List ℕ) → AllOctets xs → BookOr xs
book-or-fault xs o =
    ⊎_elim
    (λ h. is_none (inl (in_count h)))
    (λ p.
    let x = two p.front p.size (octets-left p.front p.rest p.whole o) in
    let v : word x.0 ++ p.rest ≡ xs = ap (λ (y : List ℕ). y ++ p.rest) x.1 ∙ p.whole in
    let o₁ : AllOctets p.rest = octets-right p.front p.rest p.whole o in
    first-or x.0 p.rest x.2 o₁ v (spans-or x.0 0 p.rest o₁))
    (split 2 xs)
