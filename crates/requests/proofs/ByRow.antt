-- What a line asks by the row that its first word's key finds.
use Prim.Native.Nat.{ℕ, zero, suc, ◌+◌, ◌*◌, ◌/◌, ◌%◌, ◌≤◌, ◌<◌}
use mathlib.Core.Path.{◌≡◌, refl, sym, ◌∙◌}
use mathlib.Core.Bool.{Bool, true, false, false≢true}
use mathlib.Core.List.{List, [], ◌∷◌, map}
use mathlib.Core.Logic.{⊎_elim}
use native.Mathlib.Omega.{arith}
use borrow.Author.Tests.{ne_eqb, eqb-true, eqb-false, ltb-true, ltb-false}
use lib.Dec.{ltb, eqb}
use lib.ListN.{length, take}
use Rattle.octets.specs.Choice.{when◌then◌else◌}
use Rattle.octets.proofs.Choice.{chosen}
use Rattle.words.specs.Words.{same}
use Rattle.fields.specs.declared.Field.{Field}
use Rattle.fields.specs.Kinds.{Found, found, lost, or_else}
use Rattle.fields.specs.Letters.{kind_of}
use Rattle.forms.specs.declared.Row.{Row}
use Rattle.forms.specs.Table.{Form, kinds_of}
use Rattle.forms.specs.Inside.{key_of, letters_packed, kinds_in, letters_next, row_in}
use Rattle.forms.proofs.Keys.{same_key}
use Rattle.requests.specs.Along.{fields_of, request, bad, Asking, taken, taken_by, tried, first_form}

-- whether each letter is one octet, and not 0
abbrev small : List ℕ → Bool
small [] = true
small (c ∷ cs) = when eqb c 0 then false else when ltb c 256 then small cs else false

-- letters that were packed come out as they are
kinds-packed : (n : ℕ) (ls : List ℕ) → length ls ≤ n → small ls ≡ true → kinds_in n (letters_packed ls) ≡ map kind_of ls
unfolding kinds_in
kinds-packed zero [] h e = refl
kinds-packed zero (c ∷ cs) h e = absurd (omega arith)
kinds-packed (suc n) [] h e = refl
kinds-packed (suc n) (c ∷ cs) h e =
    ⊎_elim (λ x. absurd (false≢true x.1))
    (λ x. ⊎_elim (λ y. step (eqb-false c 0 x.0) (ltb-true c 256 y.0) (kinds-packed n cs (omega arith) y.1)) (λ y. absurd (false≢true y.1)) (chosen (ltb c 256) x.1))
    (chosen (eqb c 0) e)
  where
    step : (c ≡ 0 → ⊥) → c < 256 → kinds_in n (letters_packed cs) ≡ map kind_of cs → (when eqb (c + 256 * letters_packed cs) 0 then [] else kind_of ((c + 256 * letters_packed cs) % 256) ∷ kinds_in n ((c + 256 * letters_packed cs) / 256)) ≡ kind_of c ∷ map kind_of cs
    step z l ih =
        let r : (c + 256 * letters_packed cs) % 256 ≡ c = omega arith in
        let q : (c + 256 * letters_packed cs) / 256 ≡ letters_packed cs = omega arith in
        rw (ne_eqb (c + 256 * letters_packed cs) 0 (λ y. z (omega arith)), r, q, ih) refl

-- whether each word of the table has a key, and each row up to eight letters
abbrev pub keyed : List Form → Bool
keyed [] = true
keyed (f ∷ fs) = when eqb (key_of f.word) 0 then false else when ltb 8 (length f.letters) then false else when small f.letters then keyed fs else false

-- whether no row has a word with that key
abbrev absent : ℕ → List Form → Bool
absent key [] = true
absent key (f ∷ fs) = when eqb key (key_of f.word) then false else absent key fs

-- whether the next row alone may have a word with that key, and then fields
abbrev alone : ℕ → List Form → Bool
alone key [] = true
alone key (f ∷ fs) = when eqb key (key_of f.word) then (when eqb (letters_packed f.letters) 0 then false else absent key fs) else absent key fs

-- whether each word has one form, or two that stand together
abbrev pub paired : List Form → Bool
paired [] = true
paired (f ∷ fs) = when alone (key_of f.word) fs then paired fs else false

-- what a line asks by the other form of its word
abbrev pub by_longer : List ℕ → ℕ → Row → List ℕ → Asking
by_longer line end r left = when eqb r.longer 0 then taken bad left else taken_by (r.which + 1) (fields_of (kinds_in 8 r.longer) 0 line end left 0)

-- what a line asks by its row
abbrev pub by_row_lem : List ℕ → ℕ → List ℕ → Row → Asking
by_row_lem line end scratch r =
    when eqb r.which 255 then taken bad scratch
    else tried r.which (fields_of (kinds_in 8 r.letters) 0 line end scratch 0).fit (fields_of (kinds_in 8 r.letters) 0 line end scratch 0).left (by_longer line end r)

-- a row of the table, as the table has it
abbrev Keyed : Form → List Form → Type 0
Keyed f fs = (key_of f.word ≡ 0 → ⊥) × (kinds_in 8 (letters_packed f.letters) ≡ kinds_of f) × (keyed fs ≡ true)

keyed-row : (f : Form) (fs : List Form) → keyed (f ∷ fs) ≡ true → Keyed f fs
keyed-row f fs g =
    ⊎_elim (λ x. absurd (false≢true x.1))
    (λ x. ⊎_elim (λ y. absurd (false≢true y.1))
    (λ y. ⊎_elim (λ z. (eqb-false _ _ x.0, kinds-packed 8 f.letters (ltb-false _ _ y.0) z.0, z.1))
    (λ z. absurd (false≢true z.1)) (chosen (small f.letters) y.1))
    (chosen (ltb 8 (length f.letters)) x.1))
    (chosen (eqb (key_of f.word) 0) g)

-- where fields are tried, and then the same is gone on with
pub tried_same : (which : ℕ) (x : Found (List Field)) (left : List ℕ) {g h : List ℕ → Asking} → ((l : List ℕ) → g l ≡ h l) → tried which x left g ≡ tried which x left h
tried_same which (found fs) left e = refl
tried_same which lost left e = e left

pub tried-bad : (which : ℕ) (x : Found (List Field)) (left : List ℕ) → tried which x left (taken bad) ≡ taken (or_else x (request which) bad) left
tried-bad which (found fs) left = refl
tried-bad which lost left = refl

module _ (line : List ℕ) (end : ℕ) where
  -- no row has the word
  none_first : (fs : List Form) (i : ℕ) (scratch : List ℕ) → keyed fs ≡ true → absent (key_of (take end line)) fs ≡ true → taken bad scratch ≡ first_form fs i line end scratch
  unfolding first_form
  none_first [] i scratch g m = refl
  none_first (f ∷ fs) i scratch g m =
      let k = keyed-row f fs g in
      ⊎_elim (λ x. absurd (false≢true x.1))
      (λ x. rw (same_key (take end line) f.word k.0, x.0) (none_first fs (suc i) scratch k.2 x.1))
      (chosen (eqb (key_of (take end line)) (key_of f.word)) m)

  -- the other form of the word, which stands next, or none
  next-first : (fs : List Form) (i : ℕ) (r : Row) → r.which ≡ i → r.longer ≡ letters_next fs (key_of (take end line)) → keyed fs ≡ true → alone (key_of (take end line)) fs ≡ true
      → (left : List ℕ) → by_longer line end r left ≡ first_form fs (suc i) line end left
  unfolding first_form
  next-first [] i r w l g m left = rw l refl
  next-first (f ∷ fs) i r w l g m left =
      let k = keyed-row f fs g in
      ⊎_elim (λ x. there k x.0 x.1) (λ x. other x.0 x.1) (chosen (eqb (key_of (take end line)) (key_of f.word)) m)
    where
      other : eqb (key_of (take end line)) (key_of f.word) ≡ false → absent (key_of (take end line)) fs ≡ true → by_longer line end r left ≡ first_form (f ∷ fs) (suc i) line end left
      other e a =
          let none : r.longer ≡ 0 = l ∙ rw e refl in
          let gone : absent (key_of (take end line)) (f ∷ fs) ≡ true = rw e a in
          rw none (none_first (f ∷ fs) (suc i) left g gone)

      there : Keyed f fs → eqb (key_of (take end line)) (key_of f.word) ≡ true → (when eqb (letters_packed f.letters) 0 then false else absent (key_of (take end line)) fs) ≡ true → by_longer line end r left ≡ first_form (f ∷ fs) (suc i) line end left
      there k e a =
          ⊎_elim (λ x. absurd (false≢true x.1))
          (λ x.
          let some : r.longer ≡ letters_packed f.letters = l ∙ rw e refl in
          let next : r.which + 1 ≡ suc i = omega arith in
          rw (some, x.0, next, k.1, same_key (take end line) f.word k.0, e)
          (sym (tried-bad (suc i) (fields_of (kinds_of f) 0 line end left 0).fit (fields_of (kinds_of f) 0 line end left 0).left)
          ∙ tried_same (suc i) (fields_of (kinds_of f) 0 line end left 0).fit (fields_of (kinds_of f) 0 line end left 0).left (λ l'. none_first fs (suc (suc i)) l' k.2 x.1)))
          (chosen (eqb (letters_packed f.letters) 0) a)

  module _ (scratch : List ℕ) where
    -- the row that a word's key finds is the first of that word
    pub row_first : (fs : List Form) (i : ℕ) → keyed fs ≡ true → paired fs ≡ true → i + length fs ≤ 255 → by_row_lem line end scratch (row_in fs i (key_of (take end line))) ≡ first_form fs i line end scratch
    unfolding row_in first_form
    row_first [] i g p m = refl
    row_first (f ∷ fs) i g p m =
        let k = keyed-row f fs g in
        ⊎_elim (λ x. step k x.0 (row_first fs (suc i) k.2 x.1 (omega arith))) (λ x. absurd (false≢true x.1)) (chosen (alone (key_of f.word) fs) p)
      where
        here : Keyed f fs → key_of (take end line) ≡ key_of f.word → alone (key_of f.word) fs ≡ true
            → by_row_lem line end scratch (record { which = i; letters = letters_packed f.letters; longer = letters_next fs (key_of (take end line)) })
            ≡ tried i (fields_of (kinds_of f) 0 line end scratch 0).fit (fields_of (kinds_of f) 0 line end scratch 0).left (λ left. first_form fs (suc i) line end left)
        here k e a =
            let b : alone (key_of (take end line)) fs ≡ true = rw e a in
            rw (ne_eqb i 255 (λ z. omega arith), k.1)
            (tried_same i (fields_of (kinds_of f) 0 line end scratch 0).fit (fields_of (kinds_of f) 0 line end scratch 0).left
            (next-first fs i (record { which = i; letters = letters_packed f.letters; longer = letters_next fs (key_of (take end line)) }) refl refl k.2 b))

        go : (t : Bool) → eqb (key_of (take end line)) (key_of f.word) ≡ t → Keyed f fs → alone (key_of f.word) fs ≡ true → by_row_lem line end scratch (row_in fs (suc i) (key_of (take end line))) ≡ first_form fs (suc i) line end scratch
            → by_row_lem line end scratch (when t then record { which = i; letters = letters_packed f.letters; longer = letters_next fs (key_of (take end line)) } else row_in fs (suc i) (key_of (take end line)))
            ≡ (when t then tried i (fields_of (kinds_of f) 0 line end scratch 0).fit (fields_of (kinds_of f) 0 line end scratch 0).left (λ left. first_form fs (suc i) line end left) else first_form fs (suc i) line end scratch)
        go true e k a ih = here k (eqb-true _ _ e) a
        go false e k a ih = ih

        step : Keyed f fs → alone (key_of f.word) fs ≡ true → by_row_lem line end scratch (row_in fs (suc i) (key_of (take end line))) ≡ first_form fs (suc i) line end scratch
            → by_row_lem line end scratch (when eqb (key_of (take end line)) (key_of f.word) then record { which = i; letters = letters_packed f.letters; longer = letters_next fs (key_of (take end line)) } else row_in fs (suc i) (key_of (take end line)))
            ≡ (when same (take end line) f.word then tried i (fields_of (kinds_of f) 0 line end scratch 0).fit (fields_of (kinds_of f) 0 line end scratch 0).left (λ left. first_form fs (suc i) line end left) else first_form fs (suc i) line end scratch)
        step k a ih = rw (same_key (take end line) f.word k.0) (go (eqb (key_of (take end line)) (key_of f.word)) refl k a ih)
