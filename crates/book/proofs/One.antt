-- One list of octets is at most one book's.
use Prim.Native.Nat.{ℕ, ◌/◌, ◌%◌}
use mathlib.Core.Path.{◌≡◌, refl}
use mathlib.Core.List.{List, [], ◌∷◌, ◌++◌}
use native.Mathlib.Omega.{arith}
use lib.ListN.{length}
use Rattle.book.specs.Book.{Span, Recorded, Book, word, spans_octets, entries_octets, book_octets}

-- two octets are one number's
word-one : (n k : ℕ) → n % 256 ≡ k % 256 → n / 256 ≡ k / 256 → n ≡ k
word-one n k p q = omega arith

pub word-front : (n k : ℕ) (xs ys : List ℕ) → word n ++ xs ≡ word k ++ ys → (n ≡ k) × (xs ≡ ys)
word-front n k xs ys e = let p : n % 256 ≡ k % 256 = cc in let q : n / 256 ≡ k / 256 = cc in (word-one n k p q, cc)

-- lists of one length, each with another behind it
pub front-one : (a b xs ys : List ℕ) → length a ≡ length b → a ++ xs ≡ b ++ ys → (a ≡ b) × (xs ≡ ys)
front-one [] [] xs ys h e = (refl, e)
front-one [] (y ∷ b) xs ys h e = absurd (omega arith)
front-one (x ∷ a) [] xs ys h e = absurd (omega arith)
front-one (x ∷ a) (y ∷ b) xs ys h e =
    let r = front-one a b xs ys (omega arith) (cc) in
    let p : x ≡ y = cc in
    ((λ i. p i ∷ r.0 i), r.1)

spans-one : (ss us : List Span) (xs ys : List ℕ) → length ss ≡ length us → spans_octets ss ++ xs ≡ spans_octets us ++ ys → (ss ≡ us) × (xs ≡ ys)
unfolding spans_octets
spans-one [] [] xs ys h e = (refl, e)
spans-one [] (t ∷ us) xs ys h e = absurd (omega arith)
spans-one (s ∷ ss) [] xs ys h e = absurd (omega arith)
spans-one (s ∷ ss) (t ∷ us) xs ys h e =
    let f = word-front s.first t.first _ _ e in
    let l = word-front s.last t.last _ _ f.1 in
    let q : s.sender ≡ t.sender = cc l.1 in
    let r = spans-one ss us xs ys (omega arith) (cc l.1) in
    ((λ i. record { first = f.0 i; last = l.0 i; sender = q i } ∷ r.0 i), r.1)

entries-one : (ss us : List Recorded) → length ss ≡ length us → entries_octets ss ≡ entries_octets us → ss ≡ us
unfolding entries_octets
entries-one [] [] h e = refl
entries-one [] (t ∷ us) h e = absurd (omega arith)
entries-one (s ∷ ss) [] h e = absurd (omega arith)
entries-one (s ∷ ss) (t ∷ us) h e =
    let q : s.sender ≡ t.sender = cc in
    let w : word (length s.message) ++ (s.message ++ entries_octets ss) ≡ word (length t.message) ++ (t.message ++ entries_octets us) = cc in
    let l = word-front (length s.message) (length t.message) _ _ w in
    let m = front-one s.message t.message _ _ l.0 l.1 in
    let r = entries-one ss us (omega arith) m.1 in
    λ i. record { sender = q i; message = m.0 i } ∷ r i

-- whether they are good or not
pub book-one : (b c : Book) → book_octets b ≡ book_octets c → b ≡ c
unfolding book_octets
book-one b c e =
    let n = word-front (length b.spans) (length c.spans) _ _ e in
    let s = spans-one b.spans c.spans _ _ n.0 n.1 in
    let k = word-front (length b.entries) (length c.entries) _ _ s.1 in
    let m = entries-one b.entries c.entries k.0 k.1 in
    λ i. record { spans = s.0 i; entries = m i }
