-- No two words have the same key, so a row is found by its key.
use Prim.Native.Nat.{ℕ, zero, suc, ◌+◌, ◌*◌, ◌-◌, ◌≤◌, ◌<◌}
use mathlib.Core.Path.{◌≡◌, refl, sym, ◌∙◌, ap}
use mathlib.Core.Bool.{Bool, true, false, not, false≢true}
use mathlib.Core.List.{List, [], ◌∷◌}
use mathlib.Core.Logic.{⊎_elim}
use native.Mathlib.Omega.{arith}
use borrow.Author.Tests.{lt-ltb, le-ltb, eq-eqb, ne_eqb, eqb-true, eqb-false, ltb-true, ltb-false}
use lib.Dec.{ltb, eqb}
use lib.ListN.{length, get_or, drop, length-drop}
use lib.Seq.{drop-cons}
use Rattle.octets.specs.Choice.{when◌then◌else◌}
use Rattle.octets.proofs.Choice.{chosen, decided}
use Rattle.words.specs.Words.{same}
use Rattle.fields.specs.Kinds.{Found, found, lost}
use Rattle.forms.specs.Table.{Form}
use Rattle.forms.specs.Inside.{letter_of, letters_all, digits_of, key_of, letters_packed, letters_next, row_in}

-- a letter is at most 27, and says its octet
letter-back : (c : ℕ) → (letter_of c ≡ 0 → ⊥) → (letter_of c ≤ 27) × (c ≡ (when eqb (letter_of c) 27 then 45 else letter_of c + 96))
unfolding letter_of
letter-back c n = go (ltb 122 c) (ltb 96 c) (eqb c 45) refl refl refl n
  where
    go : (s t u : Bool) → ltb 122 c ≡ s → ltb 96 c ≡ t → eqb c 45 ≡ u → ((when s then 0 else when t then c - 96 else when u then 27 else 0) ≡ 0 → ⊥)
        → ((when s then 0 else when t then c - 96 else when u then 27 else 0) ≤ 27)
        × (c ≡ (when eqb (when s then 0 else when t then c - 96 else when u then 27 else 0) 27 then 45 else (when s then 0 else when t then c - 96 else when u then 27 else 0) + 96))
    go true t u p q r m = absurd (m refl)
    go false true u p q r m = let a = ltb-false 122 c p in let b = ltb-true 96 c q in (omega arith, rw (ne_eqb (c - 96) 27 (λ z. omega arith)) (omega arith))
    go false false true p q r m = (omega arith, eqb-true c 45 r)
    go false false false p q r m = absurd (m refl)

letters-step : (c : ℕ) (cs : List ℕ) → letters_all (c ∷ cs) ≡ true → (letter_of c ≡ 0 → ⊥) × (letters_all cs ≡ true)
unfolding letters_all
letters-step c cs h = ⊎_elim (λ x. absurd (false≢true x.1)) (λ x. (eqb-false (letter_of c) 0 x.0, x.1)) (chosen (eqb (letter_of c) 0) h)

-- words with the same number are the same
digits_same : (a b : List ℕ) → letters_all a ≡ true → letters_all b ≡ true → digits_of a ≡ digits_of b → same a b ≡ true
unfolding digits_of same
digits_same [] [] p q e = refl
digits_same [] (b ∷ bs) p q e = absurd ((letters-step b bs q).0 (omega arith))
digits_same (a ∷ xs) [] p q e = absurd ((letters-step a xs p).0 (omega arith))
digits_same (a ∷ xs) (b ∷ bs) p q e =
    let x = letters-step a xs p in
    let y = letters-step b bs q in
    let u = letter-back a x.0 in
    let v = letter-back b y.0 in
    let l : letter_of a ≡ letter_of b = omega (arith, u.0, v.0, e) in
    let d : digits_of xs ≡ digits_of bs = omega (arith, u.0, v.0, e) in
    let s : a ≡ b = u.1 ∙ ap (λ (z : ℕ). when eqb z 27 then 45 else z + 96) l ∙ sym v.1 in
    rw (eq-eqb a b s) (digits_same xs bs x.1 y.1 d)

same_refl : (a : List ℕ) → same a a ≡ true
unfolding same
same_refl [] = refl
same_refl (c ∷ cs) = rw (eq-eqb c c refl) (same_refl cs)

same-eq : (a b : List ℕ) → same a b ≡ true → a ≡ b
unfolding same
same-eq [] [] e = refl
same-eq [] (b ∷ bs) e = absurd (false≢true e)
same-eq (a ∷ xs) [] e = absurd (false≢true e)
same-eq (a ∷ xs) (b ∷ bs) e = ⊎_elim (λ x. let h : a ≡ b = eqb-true a b x.0 in let t : xs ≡ bs = same-eq xs bs x.1 in cc) (λ x. absurd (false≢true x.1)) (chosen (eqb a b) e)

-- a key that is not 0 is that of letters
key-valid : (w : List ℕ) → (key_of w ≡ 0 → ⊥) → (letters_all w ≡ true) × (key_of w ≡ digits_of w)
unfolding key_of
key-valid w n = go (ltb 13 (length w)) (letters_all w) refl n
  where
    go : (s t : Bool) → letters_all w ≡ t → ((when s then 0 else when t then digits_of w else 0) ≡ 0 → ⊥) → (t ≡ true) × ((when s then 0 else when t then digits_of w else 0) ≡ digits_of w)
    go true t e m = absurd (m refl)
    go false true e m = (refl, refl)
    go false false e m = absurd (m refl)

-- so words are the same where their keys are
pub same_key : (a w : List ℕ) → (key_of w ≡ 0 → ⊥) → same a w ≡ eqb (key_of a) (key_of w)
same_key a w n = ⊎_elim (λ (t : same a w ≡ true). t ∙ sym (eq-eqb _ _ (ap key_of (same-eq a w t)))) (λ (t : same a w ≡ false). t ∙ sym (ne_eqb _ _ (other t))) (decided (same a w))
  where
    other : same a w ≡ false → key_of a ≡ key_of w → ⊥
    other t e =
        let x = key-valid w n in
        let y = key-valid a (λ z. n (sym e ∙ z)) in
        false≢true (sym t ∙ digits_same a w y.0 x.0 (sym y.1 ∙ e ∙ x.1))

-- a row's number is 255 at the most
pub row_small : (fs : List Form) (i key : ℕ) → i + length fs ≤ 255 → (row_in fs i key).which ≤ 255
unfolding row_in
row_small [] i key h = omega arith
row_small (f ∷ fs) i key h = go (eqb key (key_of f.word)) (row_small fs (suc i) key (omega arith))
  where
    go : (t : Bool) → (row_in fs (suc i) key).which ≤ 255 → (when t then record { which = i; letters = letters_packed f.letters; longer = letters_next fs key } else row_in fs (suc i) key).which ≤ 255
    go true ih = omega arith
    go false ih = ih

-- how large a number of n letters can be
abbrev cap : ℕ → ℕ
cap zero = 1
cap (suc n) = 28 * cap n

letter-most : (c : ℕ) → letter_of c ≤ 27
letter-most c = ⊎_elim (λ (t : eqb (letter_of c) 0 ≡ true). omega (arith, eqb-true (letter_of c) 0 t)) (λ (t : eqb (letter_of c) 0 ≡ false). (letter-back c (eqb-false (letter_of c) 0 t)).0) (decided (eqb (letter_of c) 0))

digits-below : (n : ℕ) (l : List ℕ) → length l ≤ n → digits_of l < cap n
unfolding digits_of
digits-below zero [] h = omega arith
digits-below (suc n) [] h = omega (arith, digits-below n [] (omega arith))
digits-below zero (c ∷ cs) h = absurd (omega arith)
digits-below (suc n) (c ∷ cs) h = omega (arith, digits-below n cs (omega arith), letter-most c)

-- a step back along the word
module _ (word : List ℕ) (i j : ℕ) (e : i ≡ suc j) (h : j < length word) where
  pub digits_more : digits_of (drop j word) ≡ 28 * digits_of (drop i word) + letter_of (get_or word j 0)
  unfolding digits_of
  digits_more = rw (drop-cons word j 0 h, e) refl

  pub letters-more : (letter_of (get_or word j 0) ≡ 0 → ⊥) → letters_all (drop j word) ≡ letters_all (drop i word)
  unfolding letters_all
  letters-more n = rw (drop-cons word j 0 h, ne_eqb _ _ n, e) refl

  broken-here : letter_of (get_or word j 0) ≡ 0 → letters_all (drop j word) ≡ false
  unfolding letters_all
  broken-here n = rw (drop-cons word j 0 h, eq-eqb _ _ n) refl

  pub digits-fit : length word ≤ 13 → digits_of (drop j word) < 6502111422497947648
  digits-fit l = digits-below 13 (drop j word) (simp length-drop (omega arith))

broken-before : (word : List ℕ) (j : ℕ) → letters_all (drop j word) ≡ false → letters_all word ≡ false
unfolding letters_all
broken-before word zero e = e
broken-before [] (suc j) e = e
broken-before (c ∷ cs) (suc j) e = go (eqb (letter_of c) 0) (broken-before cs j e)
  where
    go : (t : Bool) → letters_all cs ≡ false → (when t then false else letters_all cs) ≡ false
    go true u = refl
    go false u = u

pub key-long : (word : List ℕ) → 13 < length word → 0 ≡ key_of word
unfolding key_of
key-long word h = rw (lt-ltb _ _ h) refl

pub key-broken : (word : List ℕ) (j : ℕ) → length word ≤ 13 → j < length word → letter_of (get_or word j 0) ≡ 0 → 0 ≡ key_of word
unfolding key_of
key-broken word j l h n = rw (le-ltb _ _ l, broken-before word j (broken-here word (suc j) j refl h n)) refl

pub key-whole : (word : List ℕ) (i : ℕ) → i ≡ 0 → length word ≤ 13 → letters_all (drop i word) ≡ true → digits_of (drop i word) ≡ key_of word
unfolding key_of
key-whole word i z l a = let b : letters_all word ≡ true = rw z at a in rw (z, le-ltb _ _ l, b) refl

pub key-start : (word : List ℕ) (i : ℕ) → length word ≤ i → (0 ≡ digits_of (drop i word)) × (letters_all (drop i word) ≡ true)
unfolding digits_of letters_all
key-start word i h = rw (drop_all word i h) (refl, refl)
  where
    drop_all : (l : List ℕ) (k : ℕ) → length l ≤ k → drop k l ≡ []
    drop_all [] zero m = refl
    drop_all [] (suc k) m = refl
    drop_all (c ∷ cs) zero m = absurd (omega arith)
    drop_all (c ∷ cs) (suc k) m = drop_all cs k (omega arith)

-- a key that no row has: of two forms of one word, which stand together, the first says it
abbrev unseen : Found ℕ → ℕ → Bool
unseen lost key = true
unseen (found seen) key = not (eqb seen key)

-- one more that it is not, where the row is not the other form of the word before
abbrev Noted : Bool → Type 0 → Type 0 → Type 0
Noted true known more = known × more
Noted false known more = known

-- that it is none of the rows' words, after the word that was seen
abbrev pub Misses : Found ℕ → List Form → ℕ → Type 0 → Type 0
Misses seen [] key known = known
Misses seen (f ∷ fs) key known = Misses (found (key_of f.word)) fs key (Noted (unseen seen (key_of f.word)) known (key ≡ key_of f.word → ⊥))

-- what is known of the word that was seen
abbrev NotSeen : Found ℕ → ℕ → Type 0
NotSeen lost key = Unit {0}
NotSeen (found seen) key = key ≡ seen → ⊥

missed : (seen : Found ℕ) (fs : List Form) (i key : ℕ) (known : Type 0) → (known → NotSeen seen key) → Misses seen fs key known → known × (row_in fs i key ≡ record { which = 255; letters = 0; longer = 0 })
unfolding row_in
missed seen [] i key known n m = (m, refl)
missed seen (f ∷ fs) i key known n m = go seen (unseen seen (key_of f.word)) refl n m (λ known' un m'. missed (found (key_of f.word)) fs (suc i) key known' un m')
  where
    Goal : Type 0 → Type 0
    Goal known' = known' × ((when eqb key (key_of f.word) then record { which = i; letters = letters_packed f.letters; longer = letters_next fs key } else row_in fs (suc i) key) ≡ record { which = 255; letters = 0; longer = 0 })

    Rest : Type 1
    Rest = (known' : Type 0) → (known' → key ≡ key_of f.word → ⊥) → Misses (found (key_of f.word)) fs key known' → known' × (row_in fs (suc i) key ≡ record { which = 255; letters = 0; longer = 0 })

    last : (known' : Type 0) → (known' → known) → (known' → key ≡ key_of f.word → ⊥) → Misses (found (key_of f.word)) fs key known' → Rest → Goal known
    last known' back un m' rest = let r = rest known' un m' in (back r.0, rw (ne_eqb key (key_of f.word) (un r.0)) r.1)

    seen-is : (s k : ℕ) → not (eqb s k) ≡ false → s ≡ k
    seen-is s k e = ⊎_elim (λ (t : eqb s k ≡ true). eqb-true s k t) (λ (t : eqb s k ≡ false). absurd (false≢true (sym e ∙ ap not t))) (decided (eqb s k))

    go : (seen : Found ℕ) (t : Bool) → unseen seen (key_of f.word) ≡ t → (known → NotSeen seen key) → Misses (found (key_of f.word)) fs key (Noted t known (key ≡ key_of f.word → ⊥)) → Rest → Goal known
    go seen true u n m rest = last (known × (key ≡ key_of f.word → ⊥)) (λ k. k.0) (λ k. k.1) m rest
    go lost false u n m rest = absurd (false≢true (sym u))
    go (found s) false u n m rest = last known (λ k. k) (λ k e. n k (e ∙ sym (seen-is s (key_of f.word) u))) m rest

pub row-none : (fs : List Form) (key : ℕ) → Misses lost fs key (Unit {0}) → record { which = 255; letters = 0; longer = 0 } ≡ row_in fs 0 key
row-none fs key m = sym (missed lost fs 0 key (Unit {0}) (λ k. tt) m).1
