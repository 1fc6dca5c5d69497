-- What a line asks by its places is what it asks by its words, for every row of the table.
use Rattle.std.specs.Prelude.{Option, Some, None}
use Prim.Native.Nat.{ℕ, zero, suc, ◌+◌, ◌-◌, ◌*◌, ◌/◌, ◌≤◌, ◌<◌}
use mathlib.Core.Path.{◌≡◌, refl, sym, ◌∙◌, ap}
use mathlib.Core.Bool.{Bool, true, false, false≢true}
use mathlib.Core.List.{List, [], ◌∷◌, ◌++◌}
use mathlib.Core.Logic.{◌⊎◌, inl, inr, ⊎_elim}
use native.Mathlib.Omega.{arith}
use native.Mathlib.Decide.{dec_lt}
use borrow.Author.Tests.{le-leb, lt-leb, lt-ltb, ne_eqb, ltb-false}
use lib.Dec.{ltb, leb, eqb, leb-suc-suc}
use lib.ListN.{length, take, drop, length-drop, length-append, replicate, length-map}
use lib.Seq.{drop-drop, length-take-le, sets, sets-eq, take-take, drop_at, drop-append-le, take-append_seam}
use Rattle.octets.specs.Octet.{octets}
use Rattle.octets.specs.Choice.{when◌then◌else◌}
use Rattle.octets.proofs.Choice.{chosen, decided}
use Rattle.words.specs.Words.{word_length, word_end_lem, same, number_of, octet_of_lem, are_octets, octets_of}
use Rattle.words.specs.Into.{Entry, entry}
use Rattle.words.proofs.Bounds.{word-within}
use Rattle.words.proofs.Into.{octets-few, into-keeps, octets-into, none-into}
use Rattle.fields.specs.declared.Field.{Field}
use Rattle.fields.specs.Kinds.{Kind, a_number, a_last, an_octet, some_octets, a_word, not_below_lem, FieldSays, field_says, unsaid, Found, found, lost, number_says, meaning, leading, or_else}
use Rattle.fields.specs.Letters.{kind_of}
use Rattle.fields.specs.Placed.{field, no_field, entered, placed}
use Rattle.fields.proofs.Typed.{word-long, word-into, word_keeps}
use Rattle.forms.specs.Table.{Form, forms, kinds_of}
use Rattle.requests.specs.Words.{lettered, words_of, words_say, asks, nothing, asking, asked_by_lem, asked_by_table, asked_of}
use Rattle.requests.specs.Along.{word_at, Along, heading, fields_of, request, bad, taken, tried, first_form, request_of_lem, said_at, said_in, says_of}
use Rattle.requests.proofs.Steps.{fields-ended, fields-left, field-missing, field-broken, field-there}

-- the words left after the word that ends at octet `at`
abbrev rest_at : List ℕ → ℕ → List (List ℕ)
rest_at line at = when leb (length line) at then [] else words_of (drop (at + 1) line)

-- the first word is what stands before the first space
words-first : (line : List ℕ) → words_of line ≡ take (word_length line) line ∷ rest_at line (word_length line)
unfolding words_of word_length lettered
words-first [] = refl
words-first (c ∷ cs) = go (eqb c 32) (words-first cs)
  where
    go : (t : Bool) → words_of cs ≡ take (word_length cs) cs ∷ rest_at cs (word_length cs)
        → (when t then [] ∷ words_of cs else lettered c (words_of cs))
        ≡ take (when t then 0 else suc (word_length cs)) (c ∷ cs) ∷ rest_at (c ∷ cs) (when t then 0 else suc (word_length cs))
    go true e = rw (lt-leb (suc (length cs)) 0 (omega arith)) refl
    go false e = let n : suc (word_length cs) + 1 ≡ suc (word_length cs + 1) = omega arith in rw (e, leb-suc-suc, n) refl

-- past a place of the line, the words left are the same
rest-drop : (line : List ℕ) (a n : ℕ) → a ≤ length line → rest_at (drop a line) n ≡ rest_at line (a + n)
rest-drop line a n h = go (dec_lt (a + n) (length line))
  where
    go : Dec (a + n < length line) → rest_at (drop a line) n ≡ rest_at line (a + n)
    go (yes l) =
        let e : a + n + 1 ≡ a + (n + 1) = omega arith in
        let k : n < length (drop a line) = simp length-drop (omega arith) in
        rw (lt-leb _ _ k, lt-leb _ _ l, e, drop-drop) refl
    go (no l) =
        let k : length (drop a line) ≤ n = simp length-drop (omega arith) in
        let m : length line ≤ a + n = omega arith in
        rw (le-leb _ _ k, le-leb _ _ m) refl

-- before the line's end there is a word left, and then those after it
rest-first : (line : List ℕ) (at : ℕ) → at < length line → rest_at line at ≡ word_at line at ∷ rest_at line (word_end_lem line (at + 1))
rest-first line at h =
    let n : word_end_lem line (at + 1) - (at + 1) ≡ word_length (drop (at + 1) line) = omega arith in
    let i : at + 1 ≤ length line = omega arith in
    rw (lt-leb _ _ h, words-first (drop (at + 1) line), n, rest-drop line (at + 1) _ i) refl

-- at its end there is none
rest-none : (line : List ℕ) (at : ℕ) → length line ≤ at → rest_at line at ≡ []
rest-none line at h = rw (le-leb _ _ h) refl

-- how long a word is
word-length : (line : List ℕ) (at : ℕ) → at < length line → length (word_at line at) ≡ word_end_lem line (at + 1) - (at + 1)
word-length line at h =
    length-take-le (word_end_lem line (at + 1) - (at + 1)) (drop (at + 1) line) (simp length-drop (omega (arith, word-within line (at + 1) (omega arith))))

-- a stretch that ends in the front is one of the front
octets-front : (from count n : ℕ) (s : List ℕ) → from + count ≤ n → octets (take n s) from count ≡ octets s from count
octets-front zero count n s h = take-take count n s (omega arith)
octets-front (suc from) count zero s h = absurd (omega arith)
octets-front (suc from) count (suc n) [] h = refl
octets-front (suc from) count (suc n) (x ∷ xs) h = octets-front from count n xs (omega arith)

-- so a field whose octets end in the front says the same where the front is the same
said_same : (s t : List ℕ) (f : Field) (n : ℕ) → f.from + f.count ≤ n → take n s ≡ take n t → said_at s f ≡ said_at t f
said_same s t f n h e =
    ap (λ (l : List ℕ). field_says f.value l) (sym (octets-front f.from f.count n s h) ∙ ap (λ (l : List ℕ). octets l f.from f.count) e ∙ octets-front f.from f.count n t h)

-- octets that were stored stand there
sets-there : (xs buffer : List ℕ) (at : ℕ) → at + length xs ≤ length buffer → octets (sets buffer at xs) at (length xs) ≡ xs
sets-there xs buffer at h =
    let l : length (take at buffer) ≡ at = length-take-le at buffer (omega arith) in
    let m : at ≤ length (take at buffer ++ xs) = simp length-append (omega arith) in
    ap (λ (b : List ℕ). octets b at (length xs)) (sets-eq xs buffer at h)
    ∙ ap (take (length xs)) (drop-append-le at (take at buffer ++ xs) (drop (at + length xs) buffer) m ∙ ap (λ (l : List ℕ). l ++ drop (at + length xs) buffer) (drop_at (take at buffer) xs at l))
    ∙ take-append_seam xs (drop (at + length xs) buffer)

-- a word along the line: it is no field of the kind, or it says there what it means
abbrev Enters : Kind → ℕ → List ℕ → ℕ → ℕ → Entry → Type 0
Enters k before word next most e =
    ((meaning k before word ≡ lost) × (e.count ≡ None))
    ⊎ ((v : ℕ) × (e.count ≡ Some v) × (meaning k before word ≡ found (said_at e.left (placed k v next))) × ((placed k v next).from ≡ next) × ((placed k v next).count ≤ most))

number-enters : (k : Kind) (before : ℕ) (word : List ℕ) (next most : ℕ) (left : List ℕ) (n : Option ℕ) → meaning k before word ≡ number_says n → ((v : ℕ) → placed k v next ≡ field v next 0) → Enters k before word next most (entry n left)
number-enters k before word next most left (Some v) e p = inr (v, refl, e ∙ ap (λ (f : Field). found (said_at left f)) (sym (p v)), ap (λ (f : Field). f.from) (p v), omega (arith, ap (λ (f : Field). f.count) (p v)))
number-enters k before word next most left None e p = inl (e, refl)

-- a field puts half as many octets as its word has; a word that is kept as
-- it is typed, up to nine more
enters : (k : Kind) (before : ℕ) (word scratch : List ℕ) (next : ℕ) → next + length word / 2 + 9 ≤ length scratch → Enters k before word next (length word / 2 + 9) (entered k before word scratch next)
enters (a_number most) before word scratch next h = number-enters (a_number most) before word next _ scratch (number_of most word) refl (λ v. refl)
enters (a_last most) before word scratch next h = number-enters (a_last most) before word next _ scratch (not_below_lem before (number_of most word)) refl (λ v. refl)
enters an_octet before word scratch next h = number-enters an_octet before word next _ scratch (octet_of_lem word) refl (λ v. refl)
enters (some_octets most) before word scratch next h =
    ⊎_elim
    (λ (t : are_octets most word ≡ true).
    let i = octets-into most word scratch next (omega arith) t in
    inr (
      length (octets_of word),
      ap (λ (e : Entry). e.count) i,
      there t ∙ ap (λ (l : List ℕ). found (field_says 0 l)) (sym (ap (λ (e : Entry). octets e.left next (length (octets_of word))) i ∙ sets-there (octets_of word) scratch next (omega (arith, octets-few word)))),
      refl,
      omega (arith, octets-few word),
    ))
    (λ (t : are_octets most word ≡ false). inl (missing t, none-into most word scratch next (omega arith) t))
    (decided (are_octets most word))
  where
    there : are_octets most word ≡ true → meaning (some_octets most) before word ≡ found (field_says 0 (octets_of word))
    there t = rw t refl

    missing : are_octets most word ≡ false → meaning (some_octets most) before word ≡ lost
    missing t = rw t refl
enters a_word before word scratch next h =
    ⊎_elim
    (λ (t : ltb 18 (length word) ≡ true). inl (missing t, ap (λ (e : Entry). e.count) (word-long word scratch next t)))
    (λ (t : ltb 18 (length word) ≡ false).
    let l = ltb-false 18 (length word) t in
    let i = word-into word scratch next t (omega arith) in
    inr (
      length word,
      ap (λ (e : Entry). e.count) i,
      there t ∙ ap (λ (l : List ℕ). found (field_says 0 l)) (sym (ap (λ (e : Entry). octets e.left next (length word)) i ∙ sets-there word scratch next (omega arith))),
      refl,
      omega arith,
    ))
    (decided (ltb 18 (length word)))
  where
    there : ltb 18 (length word) ≡ false → meaning a_word before word ≡ found (field_says 0 word)
    there t = rw t refl

    missing : ltb 18 (length word) ≡ true → meaning a_word before word ≡ lost
    missing t = rw t refl

-- before `next` the scratch stays, and it keeps its length
entered-keeps : (k : Kind) (before : ℕ) (word scratch : List ℕ) (next : ℕ) → (take next (entered k before word scratch next).left ≡ take next scratch) × (length (entered k before word scratch next).left ≡ length scratch)
entered-keeps (a_number most) before word scratch next = (refl, refl)
entered-keeps (a_last most) before word scratch next = (refl, refl)
entered-keeps an_octet before word scratch next = (refl, refl)
entered-keeps (some_octets most) before word scratch next = into-keeps most word scratch next
entered-keeps a_word before word scratch next = word_keeps word scratch next

-- what the fields along the line say, by the scratch
abbrev told : List ℕ → Found (List Field) → Found (List FieldSays)
told s (found fs) = found (said_in s fs)
told s lost = lost

told-leading : (s : List ℕ) (f : Field) (x : Found (List Field)) → told s (leading f x) ≡ leading (said_at s f) (told s x)
told-leading s f (found fs) = refl
told-leading s f lost = refl

-- along the line the fields say what the words left say, the scratch stays
-- before `next`, and it keeps its length
abbrev Says : List Kind → ℕ → List ℕ → ℕ → ℕ → List ℕ → Along → Type 0
Says ks before line at next scratch a = (told a.left a.fit ≡ words_say ks before (rest_at line at)) × (take next a.left ≡ take next scratch) × (length a.left ≡ length scratch)

-- that it is so of the kinds that are left, from any place on
abbrev Rest : List ℕ → List Kind → Type 0
Rest line ks = (before at : ℕ) (scratch : List ℕ) (next : ℕ) → at ≤ length line → 2 * next + (length line - at) + 18 * length ks ≤ 2 * length scratch → Says ks before line at next scratch (fields_of ks before line at scratch next)

-- what was put after a field, and says nothing of it
module _ (line : List ℕ) (k : Kind) (ks : List Kind) (before at : ℕ) (scratch : List ℕ) (next : ℕ) (l : at < length line) where
  says-lost : meaning k before (word_at line at) ≡ lost → (entered k before (word_at line at) scratch next).count ≡ None → Says (k ∷ ks) before line at next scratch (fields_of (k ∷ ks) before line at scratch next)
  unfolding words_say
  says-lost m n =
      let e = entered k before (word_at line at) scratch next in
      let b = field-broken line at scratch next k ks before l (word_end_lem line (at + 1)) refl e.left (ap (λ (x : Option ℕ). entry x e.left) (sym n)) in
      rw (b, rest-first line at l, m) (refl, (entered-keeps k before (word_at line at) scratch next).0, (entered-keeps k before (word_at line at) scratch next).1)

  -- a field, and then the rest
  says-found : (r : 2 * next + (length line - at) + 18 * suc (length ks) ≤ 2 * length scratch) → Rest line ks → (v : ℕ) → (entered k before (word_at line at) scratch next).count ≡ Some v
      → meaning k before (word_at line at) ≡ found (said_at (entered k before (word_at line at) scratch next).left (placed k v next)) → (placed k v next).from ≡ next → (placed k v next).count ≤ length (word_at line at) / 2 + 9
      → Says (k ∷ ks) before line at next scratch (fields_of (k ∷ ks) before line at scratch next)
  unfolding words_say
  says-found r rest v n m p q =
      let e = entered k before (word_at line at) scratch next in
      let f : Field = placed k v next in
      let kept = entered-keeps k before (word_at line at) scratch next in
      let w = word-within line (at + 1) (omega arith) in
      let d = word-length line at l in
      let a : Along = fields_of ks f.value line (word_end_lem line (at + 1)) e.left (next + f.count) in
      let b : fields_of (k ∷ ks) before line at scratch next ≡ heading f a = field-there line at scratch next k ks before l (word_end_lem line (at + 1)) refl e.left v (ap (λ (x : Option ℕ). entry x e.left) (sym n)) in
      let g = rest f.value (word_end_lem line (at + 1)) e.left (next + f.count) w (omega (arith, kept.1)) in
      let s : said_at a.left f ≡ said_at e.left f = said_same a.left e.left f (next + f.count) (omega arith) g.1 in
      let t : told a.left (leading f a.fit) ≡ leading (said_at e.left f) (words_say ks f.value (rest_at line (word_end_lem line (at + 1)))) = told-leading a.left f a.fit ∙ ap (λ (x : FieldSays). leading x (told a.left a.fit)) s ∙ ap (leading (said_at e.left f)) g.0 in
      let u : take next a.left ≡ take next scratch = sym (take-take next (next + f.count) a.left (omega arith)) ∙ ap (take next) g.1 ∙ take-take next (next + f.count) e.left (omega arith) ∙ kept.0 in
      rw (b, rest-first line at l, m) (t, u, g.2 ∙ kept.1)

module _ (line : List ℕ) where
  -- THE agreement, by induction over the kinds of a form
  fields-say : (ks : List Kind) → Rest line ks
  unfolding words_say
  fields-say [] before at scratch next h r = go (dec_lt at (length line))
    where
      go : Dec (at < length line) → Says [] before line at next scratch (fields_of [] before line at scratch next)
      go (yes l) = rw (fields-left line at scratch next before (λ e. omega arith), rest-first line at l) (refl, refl, refl)
      go (no l) = rw (fields-ended line at scratch next before (omega arith), rest-none line at (omega arith)) (refl, refl, refl)
  fields-say (k ∷ ks) before at scratch next h r = go (dec_lt at (length line)) (fields-say ks)
    where
      go : Dec (at < length line) → Rest line ks → Says (k ∷ ks) before line at next scratch (fields_of (k ∷ ks) before line at scratch next)
      go (yes l) ih =
          ⊎_elim (λ x. says-lost line k ks before at scratch next l x.0 x.1) (λ x. says-found line k ks before at scratch next l r ih x.0 x.1 x.2 x.3 x.4)
          (enters k before (word_at line at) scratch next (omega (arith, word-length line at l, word-within line (at + 1) (omega arith))))
      go (no l) ih = rw (field-missing line at scratch next k ks before (omega arith), rest-none line at (omega arith)) (refl, refl, refl)

-- fields that a form does not have say nothing
said-padded : (s : List ℕ) (fs : List Field) (n : ℕ) → said_in s (fs ++ replicate n no_field) ≡ said_in s fs ++ replicate n unsaid
said-padded s [] zero = refl
said-padded s [] (suc n) = ap (λ l. unsaid ∷ l) (said-padded s [] n)
said-padded s (f ∷ fs) n = ap (λ l. said_at s f ∷ l) (said-padded s fs n)

-- a row's fields in the array
says-request : (which : ℕ) (s : List ℕ) (fs : List Field) → (which ≡ 255 → ⊥) → says_of (taken (request which fs) s) ≡ asking which (said_in s fs)
says-request which s fs h = rw (ne_eqb which 255 h, length-map fs (said_at s)) (ap (asks which) (said-padded s fs (8 - length fs)))

-- whether no row has more than eight fields
abbrev few : List Form → Bool
few [] = true
few (f ∷ fs) = when ltb 8 (length f.letters) then false else few fs

module _ (line : List ℕ) (at : ℕ) (h : at ≤ length line) where
  -- row by row
  rows-say : (fs : List Form) (i : ℕ) (scratch : List ℕ) → few fs ≡ true → i + length fs ≤ 255 → length line - at + 144 ≤ 2 * length scratch → says_of (first_form fs i line at scratch) ≡ asked_by_lem fs i (take at line) (rest_at line at)
  unfolding first_form asked_by_lem
  rows-say [] i scratch n m r = refl
  rows-say (f ∷ fs) i scratch n m r =
      ⊎_elim (λ x. absurd (false≢true x.1))
      (λ x.
      let k = ltb-false 8 (length f.letters) x.0 in
      let s = fields-say line (kinds_of f) 0 at scratch 0 h (omega (arith, length-map f.letters kind_of)) in
      go (same (take at line) f.word) (fields_of (kinds_of f) 0 line at scratch 0).fit s.0 (rows-say fs (suc i) scratch x.1 (omega arith) r) (rows-say fs (suc i) (fields_of (kinds_of f) 0 line at scratch 0).left x.1 (omega arith) (omega (arith, s.2))))
      (chosen (ltb 8 (length f.letters)) n)
    where
      go : (t : Bool) (x : Found (List Field)) → told (fields_of (kinds_of f) 0 line at scratch 0).left x ≡ words_say (kinds_of f) 0 (rest_at line at)
          → says_of (first_form fs (suc i) line at scratch) ≡ asked_by_lem fs (suc i) (take at line) (rest_at line at)
          → says_of (first_form fs (suc i) line at (fields_of (kinds_of f) 0 line at scratch 0).left) ≡ asked_by_lem fs (suc i) (take at line) (rest_at line at)
          → says_of (when t then tried i x (fields_of (kinds_of f) 0 line at scratch 0).left (λ left. first_form fs (suc i) line at left) else first_form fs (suc i) line at scratch)
          ≡ (when t then or_else (words_say (kinds_of f) 0 (rest_at line at)) (asking i) (asked_by_lem fs (suc i) (take at line) (rest_at line at)) else asked_by_lem fs (suc i) (take at line) (rest_at line at))
      go false x e ih other = ih
      go true (found l) e ih other = says-request i _ l (λ z. omega arith) ∙ ap (λ y. or_else y (asking i) (asked_by_lem fs (suc i) (take at line) (rest_at line at))) e
      go true lost e ih other = other ∙ ap (λ y. or_else y (asking i) (asked_by_lem fs (suc i) (take at line) (rest_at line at))) e

-- for every line, where the scratch has room for the octets of a line
pub request-says : (line scratch : List ℕ) → 41032 ≤ length scratch → says_of (request_of_lem line scratch) ≡ asked_of line
unfolding request_of_lem asked_of asked_by_table
request-says line scratch s = go (ltb 81920 (length line)) refl
  where
    words : first_form forms 0 line (word_end_lem line 0) scratch ≡ first_form forms 0 line (word_length line) scratch
    words = let e : word_end_lem line 0 ≡ word_length line = omega arith in rw e refl

    asked : asked_by_table (words_of line) ≡ asked_by_lem forms 0 (take (word_length line) line) (rest_at line (word_length line))
    asked = ap asked_by_table (words-first line)

    go : (t : Bool) → ltb 81920 (length line) ≡ t → says_of (when t then taken bad scratch else first_form forms 0 line (word_end_lem line 0) scratch) ≡ (when t then nothing else asked_by_table (words_of line))
    go true e = refl
    go false e =
        ap says_of words
        ∙ rows-say line (word_length line) (omega (arith, word-within line 0 (omega arith))) forms 0 scratch refl (omega arith) (omega (arith, ltb-false 81920 (length line) e))
        ∙ sym asked

-- a line that is too long asks nothing
pub request-long : (line : List ℕ) → 81920 < length line → asked_of line ≡ nothing
unfolding asked_of
request-long line h = rw (lt-ltb _ _ h) refl
