-- What every request keeps to, by the kinds of its row.
use Rattle.std.specs.Prelude.{Option, Some, None}
use Prim.Native.Nat.{ℕ, zero, suc, ◌+◌, ◌-◌, ◌≤◌}
use mathlib.Core.Path.{◌≡◌, refl, sym, ◌∙◌, ap}
use mathlib.Core.Bool.{Bool, true, false, false≢true}
use mathlib.Core.List.{List, [], ◌∷◌, ◌++◌, map}
use mathlib.Core.Logic.{⊎_elim}
use native.Mathlib.Omega.{arith}
use borrow.Author.Tests.{ltb-false}
use lib.Dec.{ltb, eqb}
use lib.ListN.{length, get_or, drop, replicate}
use Rattle.octets.specs.Choice.{when◌then◌else◌}
use Rattle.octets.proofs.Choice.{chosen}
use Rattle.words.specs.Words.{same, number_of, octet_of_lem, are_octets}
use Rattle.words.proofs.Bounds.{number-most, octet-most}
use Rattle.words.proofs.Into.{octets-most}
use Rattle.fields.specs.Kinds.{Kind, a_number, a_last, an_octet, some_octets, a_word, FieldSays, unsaid, Found, found, lost, not_below_lem, number_says, meaning, leading, onward, or_else}
use Rattle.fields.specs.Letters.{kind_of, most_of, letter, octets_most, plan_most, circuit_most}
use Rattle.forms.specs.Table.{Form, forms, kinds_of, kinds_at}
use Rattle.forms.specs.Rows.{CHECK}
use Rattle.requests.specs.Words.{words_of, words_say, Asked, asks, nothing, asking, asked_by_lem, asked_by_table, asked_of, octets_at, Keeps, Kept, SoundRequest}

is-not : {v : ℕ} → None ≡ Some v → ⊥
is-not e = cc

is_same : {v w : ℕ} → Some v ≡ Some w → v ≡ w
is_same e = cc

found-not : {A : Type 0} {a : A} → lost ≡ found a → ⊥
found-not e = cc

found-same : {A : Type 0} {a b : A} → found a ≡ found b → a ≡ b
found-same e = cc

-- a number that is not below another
not-below : (least v : ℕ) (n : Option ℕ) → not_below_lem least n ≡ Some v → (least ≤ v) × (n ≡ Some v)
not-below least v (Some w) e = ⊎_elim (λ x. absurd (is-not x.1)) (λ x. (omega (arith, ltb-false w least x.0, is_same x.1), x.1)) (chosen (ltb w least) e)
not-below least v None e = absurd (is-not e)

-- a field that is a number
as_number : (n : Option ℕ) (g : FieldSays) → number_says n ≡ found g → (n ≡ Some g.value) × (g.octets ≡ [])
as_number (Some v) g e = let s = found-same e in (ap (λ (x : FieldSays). Some x.value) s, sym (ap (λ (x : FieldSays). x.octets) s))
as_number None g e = absurd (found-not e)

-- one field, by its kind
keeps : (k : Kind) (before : ℕ) (word : List ℕ) (g : FieldSays) → meaning k before word ≡ found g → Keeps k before g
keeps (a_number most) before word g e = let n = as_number (number_of most word) g e in (number-most most g.value word n.0, n.1)
keeps (a_last most) before word g e =
    let n = as_number (not_below_lem before (number_of most word)) g e in
    let b = not-below before g.value (number_of most word) n.0 in
    (b.0, number-most most g.value word b.1, n.1)
keeps an_octet before word g e = let n = as_number (octet_of_lem word) g e in (octet-most g.value word n.0, n.1)
keeps (some_octets most) before word g e =
    ⊎_elim (λ x. let s = ap (λ (y : FieldSays). length y.octets) (found-same x.1) in omega (arith, octets-most most word x.0, s)) (λ x. absurd (found-not x.1)) (chosen (are_octets most word) e)
keeps a_word before word g e =
    ⊎_elim (λ x. absurd (found-not x.1)) (λ x. let s = ap (λ (y : FieldSays). length y.octets) (found-same x.1) in omega (arith, ltb-false 18 (length word) x.0, s)) (chosen (ltb 18 (length word)) e)

-- a first field that was read, and the rest
abbrev Apart : List Kind → List FieldSays → Found FieldSays → List (List ℕ) → Type 0
Apart ks l m ws = (g : FieldSays) × (l' : List FieldSays) × (m ≡ found g) × (words_say ks g.value ws ≡ found l') × (l ≡ g ∷ l')

apart : (k : Kind) (ks : List Kind) (before : ℕ) (ws : List (List ℕ)) (l : List FieldSays) → words_say (k ∷ ks) before ws ≡ found l → (w : List ℕ) × (ws' : List (List ℕ)) × Apart ks l (meaning k before w) ws'
unfolding words_say
apart k ks before [] l e = absurd (found-not e)
apart k ks before (w ∷ ws) l e = (w, ws, read (meaning k before w) e)
  where
    rest : (g : FieldSays) (x : Found (List FieldSays)) → words_say ks g.value ws ≡ x → leading g x ≡ found l → Apart ks l (found g) ws
    rest g (found l') u q = (g, l', refl, u, sym (found-same q))
    rest g lost u q = absurd (found-not q)

    read : (m : Found FieldSays) → onward m (λ g. leading g (words_say ks g.value ws)) ≡ found l → Apart ks l m ws
    read (found g) q = rest g (words_say ks g.value ws) refl q
    read lost q = absurd (found-not q)

-- what stands at a place
head_at : (gs : List FieldSays) (i : ℕ) (g : FieldSays) (r : List FieldSays) → drop i gs ≡ g ∷ r → (get_or gs i unsaid ≡ g) × (drop (suc i) gs ≡ r)
head_at [] zero g r e = absurd cc
head_at [] (suc i) g r e = absurd cc
head_at (x ∷ xs) zero g r e = (cc, cc)
head_at (x ∷ xs) (suc i) g r e = head_at xs i g r e

module _ (pad gs : List FieldSays) where
  kept : (ks : List Kind) (before : ℕ) (ws : List (List ℕ)) (i : ℕ) (l : List FieldSays) → words_say ks before ws ≡ found l → drop i gs ≡ l ++ pad → Kept ks before gs i
  kept [] before ws i l e d = tt
  kept (k ∷ ks) before ws i l e d =
      let a = apart k ks before ws l e in
      let b = a.2 in
      let h = head_at gs i b.0 (b.1 ++ pad) (d ∙ ap (λ z. z ++ pad) b.4) in
      rw h.0 (keeps k before a.0 b.0 b.2, kept ks b.0.value a.1 (suc i) b.1 b.3 h.1)

-- the kinds of the rows from row i on
abbrev Suffix : List Form → List Form → ℕ → Type 0
Suffix all fs i = (j : ℕ) → kinds_at all (i + j) ≡ kinds_at fs j

suffix-head : (all : List Form) (f : Form) (fs : List Form) (i : ℕ) → Suffix all (f ∷ fs) i → kinds_at all i ≡ kinds_of f
suffix-head all f fs i k = let e : i + 0 ≡ i = omega arith in rw e at (k 0)

suffix-tail : (all : List Form) (f : Form) (fs : List Form) (i : ℕ) → Suffix all (f ∷ fs) i → Suffix all fs (suc i)
suffix-tail all f fs i k j = let e : suc i + j ≡ i + suc j = omega arith in rw e (k (suc j))

suffix-all : (all : List Form) → Suffix all all 0
suffix-all all j = let e : 0 + j ≡ j = omega arith in rw e refl

-- what keeps to the kinds of a row of a table
abbrev SoundIn : List Form → Asked → Type 0
SoundIn all (asks which gs) = Kept (kinds_at all which) 0 gs 0
SoundIn all nothing = Unit {0}

rows-sound : (all : List Form) (name : List ℕ) (ws : List (List ℕ)) (fs : List Form) (i : ℕ) → Suffix all fs i → SoundIn all (asked_by_lem fs i name ws)
unfolding asked_by_lem
rows-sound all name ws [] i k = tt
rows-sound all name ws (f ∷ fs) i k = go (same name f.word) (words_say (kinds_of f) 0 ws) refl (rows-sound all name ws fs (suc i) (suffix-tail all f fs i k))
  where
    go : (t : Bool) (x : Found (List FieldSays)) → words_say (kinds_of f) 0 ws ≡ x → SoundIn all (asked_by_lem fs (suc i) name ws) → SoundIn all (when t then or_else x (asking i) (asked_by_lem fs (suc i) name ws) else asked_by_lem fs (suc i) name ws)
    go false x e ih = ih
    go true lost e ih = ih
    go true (found l) e ih = rw (suffix-head all f fs i k) (kept (replicate (8 - length l) unsaid) (l ++ replicate (8 - length l) unsaid) (kinds_of f) 0 ws 0 l e refl)

-- every line
pub sound : (line : List ℕ) → SoundRequest (asked_of line)
unfolding asked_of asked_by_table
sound line = go (ltb 81920 (length line)) (words_of line)
  where
    same-sound : (a : Asked) → SoundIn forms a → SoundRequest a
    same-sound (asks which gs) s = s
    same-sound nothing s = tt

    go : (t : Bool) (ws : List (List ℕ)) → SoundRequest (when t then nothing else asked_by_table ws)
    go true ws = tt
    go false [] = tt
    go false (name ∷ ws) = same-sound (asked_by_lem forms 0 name ws) (rows-sound forms name ws forms 0 (suffix-all forms))

-- the octets of a field, at the most: of a plan, and of any other
abbrev pub octets_in : Bool → ℕ
octets_in plan = when plan then plan_most else octets_most

few-enough : (n : ℕ) (q : Bool) → n ≤ octets_most → n ≤ octets_in q
few-enough n true h = omega arith
few-enough n false h = h

-- no kind of field has more octets than a field may
kind-short : (l before : ℕ) (g : FieldSays) → Keeps (kind_of l) before g → length g.octets ≤ octets_in (eqb l (letter "q"))
unfolding kind_of
kind-short l before g = go (eqb l (letter "o")) (eqb l (letter "s")) (eqb l (letter "q")) (eqb l (letter "w")) (eqb l (letter "l"))
  where
    none : (q : Bool) → g.octets ≡ [] → length g.octets ≤ octets_in q
    none q e = few-enough (length g.octets) q (omega (arith, ap length e))

    go : (o s q w t : Bool) → Keeps (when o then an_octet else when s then some_octets octets_most else when q then some_octets plan_most else when w then a_word else when t then a_last circuit_most else a_number (most_of l)) before g → length g.octets ≤ octets_in q
    go true s q w t h = none q h.1
    go false true q w t h = few-enough (length g.octets) q h
    go false false true w t h = h
    go false false false true t h = omega (arith, h)
    go false false false false true h = none false h.2
    go false false false false false h = none false h.1

-- no field has more octets than it may
abbrev ShortAll : ℕ → List FieldSays → Type 0
ShortAll most gs = (i : ℕ) → length (octets_at gs i) ≤ most

short_none : (most n : ℕ) → ShortAll most (replicate n unsaid)
short_none most zero zero = omega arith
short_none most zero (suc i) = omega arith
short_none most (suc n) zero = omega arith
short_none most (suc n) (suc i) = short_none most n i

-- whether the fields of a row have so many octets at the most, by their letters
abbrev letters_within : ℕ → List ℕ → Bool
letters_within most [] = true
letters_within most (c ∷ cs) = when ltb most (octets_in (eqb c (letter "q"))) then false else letters_within most cs

short-said : (most : ℕ) (pad : List FieldSays) → ShortAll most pad → (ls : List ℕ) → letters_within most ls ≡ true → (before : ℕ) (ws : List (List ℕ)) (l : List FieldSays) → words_say (map kind_of ls) before ws ≡ found l → ShortAll most (l ++ pad)
unfolding words_say
short-said most pad p [] n before [] l e = let s : [] ≡ l = found-same e in let t : l ++ pad ≡ pad = rw (← s) refl in rw t p
short-said most pad p [] n before (w ∷ ws) l e = absurd (found-not e)
short-said most pad p (c ∷ cs) n before ws l e =
    let a = apart (kind_of c) (map kind_of cs) before ws l e in
    let b = a.2 in
    ⊎_elim (λ x. absurd (false≢true x.1))
    (λ x. rw b.4 (more b.0 b.1 (omega (arith, kind-short c before b.0 (keeps (kind_of c) before a.0 b.0 b.2), ltb-false most (octets_in (eqb c (letter "q"))) x.0)) (short-said most pad p cs x.1 b.0.value a.1 b.1 b.3)))
    (chosen (ltb most (octets_in (eqb c (letter "q")))) n)
  where
    more : (g : FieldSays) (gs : List FieldSays) → length g.octets ≤ most → ShortAll most (gs ++ pad) → ShortAll most ((g ∷ gs) ++ pad)
    more g gs h r zero = h
    more g gs h r (suc i) = r i

-- what is asked has no field with more octets than it may: a plan's in
-- `check`, and 1024 in every other request
abbrev pub Short : Asked → Type 0
Short (asks which gs) = (i : ℕ) → length (octets_at gs i) ≤ octets_in (eqb which CHECK)
Short nothing = Unit {0}

-- whether the fields of the rows from row i on have that many at the most
abbrev rows_within : List Form → ℕ → Bool
rows_within [] i = true
rows_within (f ∷ fs) i = when letters_within (octets_in (eqb i CHECK)) f.letters then rows_within fs (suc i) else false

rows_short : (name : List ℕ) (ws : List (List ℕ)) (fs : List Form) (i : ℕ) → rows_within fs i ≡ true → Short (asked_by_lem fs i name ws)
unfolding asked_by_lem
rows_short name ws [] i n = tt
rows_short name ws (f ∷ fs) i n =
    ⊎_elim (λ x. go x.0 (same name f.word) (words_say (kinds_of f) 0 ws) refl (rows_short name ws fs (suc i) x.1)) (λ x. absurd (false≢true x.1))
    (chosen (letters_within (octets_in (eqb i CHECK)) f.letters) n)
  where
    go : letters_within (octets_in (eqb i CHECK)) f.letters ≡ true → (t : Bool) (x : Found (List FieldSays)) → words_say (kinds_of f) 0 ws ≡ x → Short (asked_by_lem fs (suc i) name ws) → Short (when t then or_else x (asking i) (asked_by_lem fs (suc i) name ws) else asked_by_lem fs (suc i) name ws)
    go k false x e ih = ih
    go k true lost e ih = ih
    go k true (found l) e ih = short-said (octets_in (eqb i CHECK)) (replicate (8 - length l) unsaid) (short_none (octets_in (eqb i CHECK)) (8 - length l)) f.letters k 0 ws l e

-- of every line
pub short : (line : List ℕ) → Short (asked_of line)
unfolding asked_of asked_by_table
short line = go (ltb 81920 (length line)) (words_of line)
  where
    go : (t : Bool) (ws : List (List ℕ)) → Short (when t then nothing else asked_by_table ws)
    go true ws = tt
    go false [] = tt
    go false (name ∷ ws) = rows_short name ws forms 0 refl
