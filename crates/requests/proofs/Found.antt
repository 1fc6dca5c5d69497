-- The row that a line's first word has, by its key.
use Prim.Native.Nat.{ℕ, ◌+◌, ◌≤◌, ◌<◌}
use mathlib.Core.Path.{◌≡◌, refl, sym, ◌∙◌, ap}
use mathlib.Core.Bool.{true}
use mathlib.Core.List.{List}
use native.Mathlib.Omega.{arith}
use borrow.Author.Tests.{lt-ltb, le-ltb, eq-eqb, ne_eqb}
use lib.ListN.{length, take}
use Rattle.words.specs.Words.{word_end_lem}
use Rattle.fields.specs.declared.Field.{Field}
use Rattle.fields.specs.Kinds.{Found, found, lost, or_else}
use Rattle.forms.specs.declared.Row.{Row}
use Rattle.forms.specs.Table.{forms}
use Rattle.forms.specs.Inside.{letter_of, letters_all, digits_of, key_of, kinds_in, row_in}
use Rattle.forms.proofs.Keys.{row_small}
use Rattle.requests.specs.declared.Request.{Request}
use Rattle.requests.specs.Along.{fields_of, request, bad, Asking, taken, taken_by, tried, first_form, request_of_lem}
use Rattle.requests.proofs.ByRow.{keyed, paired, by_longer, by_row_lem, tried_same, tried-bad, row_first}

-- each word of the table has a key: this computes
rows-keyed : keyed forms ≡ true
unfolding key_of digits_of letters_all letter_of
rows-keyed = refl

-- and one form, or two that stand together
rows-paired : paired forms ≡ true
unfolding key_of digits_of letters_all letter_of
rows-paired = refl

-- a line that is too long
pub asked-nothing : (line scratch : List ℕ) → 81920 < length line → taken bad scratch ≡ request_of_lem line scratch
unfolding request_of_lem
asked-nothing line scratch h = rw (lt-ltb _ _ h) refl

-- another, by the rows
asked_by : (line scratch : List ℕ) → length line ≤ 81920 → first_form forms 0 line (word_end_lem line 0) scratch ≡ request_of_lem line scratch
unfolding request_of_lem
asked_by line scratch h = rw (le-ltb _ _ h) refl

-- a row's number is 255 at the most
pub row-most : (key : ℕ) (r : Row) → r ≡ row_in forms 0 key → r.which ≤ 255
row-most key r q = omega (arith, row_small forms 0 key (omega arith), ap (λ (x : Row). x.which) q)

-- where fields were read by a row, its number says whether they fit
tried-first : (which : ℕ) (x : Found (List Field)) (left : List ℕ) (rest : List ℕ → Asking) (q : Request) (now : List ℕ) → taken q now ≡ taken (or_else x (request which) bad) left → (q.which ≡ 255 → ⊥) → taken q now ≡ tried which x left rest
tried-first which (found fs) left rest q now e n = e
tried-first which lost left rest q now e n = absurd (n (ap (λ (t : Asking). t.request.which) e))

tried-next : (which : ℕ) (x : Found (List Field)) (left : List ℕ) (rest : List ℕ → Asking) (q : Request) (now : List ℕ) → (which ≡ 255 → ⊥) → taken q now ≡ taken (or_else x (request which) bad) left → q.which ≡ 255 → rest now ≡ tried which x left rest
tried-next which (found fs) left rest q now w e n = absurd (w (sym (ap (λ (t : Asking). t.request.which) e) ∙ n))
tried-next which lost left rest q now w e n = ap rest (ap (λ (t : Asking). t.left) e)

module _ (line scratch : List ℕ) (end : ℕ) (r : Row) (h : length line ≤ 81920) (e : end ≡ word_end_lem line 0) (q : r ≡ row_in forms 0 (key_of (take end line))) where
  by_row : by_row_lem line end scratch r ≡ request_of_lem line scratch
  by_row = ap (λ (x : Row). by_row_lem line end scratch x) q ∙ row_first line end scratch forms 0 rows-keyed rows-paired (omega arith) ∙ ap (λ (x : ℕ). first_form forms 0 line x scratch) e ∙ asked_by line scratch h

  -- no row has the word
  pub found_none : r.which ≡ 255 → taken bad scratch ≡ request_of_lem line scratch
  found_none w = rw (eq-eqb _ _ w) at by_row

  module _ (w : r.which ≡ 255 → ⊥) where
    by-tried : tried r.which (fields_of (kinds_in 8 r.letters) 0 line end scratch 0).fit (fields_of (kinds_in 8 r.letters) 0 line end scratch 0).left (by_longer line end r) ≡ request_of_lem line scratch
    by-tried = rw (ne_eqb _ _ w) at by_row

    -- a row has it, and no other
    pub found-row : r.longer ≡ 0 → taken_by r.which (fields_of (kinds_in 8 r.letters) 0 line end scratch 0) ≡ request_of_lem line scratch
    found-row z =
        sym (tried-bad r.which (fields_of (kinds_in 8 r.letters) 0 line end scratch 0).fit (fields_of (kinds_in 8 r.letters) 0 line end scratch 0).left)
        ∙ tried_same r.which (fields_of (kinds_in 8 r.letters) 0 line end scratch 0).fit (fields_of (kinds_in 8 r.letters) 0 line end scratch 0).left none
        ∙ by-tried
      where
        none : (l : List ℕ) → taken bad l ≡ by_longer line end r l
        none l = rw (eq-eqb _ _ z) refl

    module _ (a : Request) (left : List ℕ) (t : taken a left ≡ taken_by r.which (fields_of (kinds_in 8 r.letters) 0 line end scratch 0)) where
      -- two may have it, and the first fits
      pub found_first : (a.which ≡ 255 → ⊥) → taken a left ≡ request_of_lem line scratch
      found_first n = tried-first r.which (fields_of (kinds_in 8 r.letters) 0 line end scratch 0).fit (fields_of (kinds_in 8 r.letters) 0 line end scratch 0).left (by_longer line end r) a left t n ∙ by-tried

      -- two have it, and the first does not fit
      pub found-longer : (r.longer ≡ 0 → ⊥) → a.which ≡ 255 → taken_by (r.which + 1) (fields_of (kinds_in 8 r.longer) 0 line end left 0) ≡ request_of_lem line scratch
      found-longer z n =
          other
          ∙ tried-next r.which (fields_of (kinds_in 8 r.letters) 0 line end scratch 0).fit (fields_of (kinds_in 8 r.letters) 0 line end scratch 0).left (by_longer line end r) a left w t n
          ∙ by-tried
        where
          other : taken_by (r.which + 1) (fields_of (kinds_in 8 r.longer) 0 line end left 0) ≡ by_longer line end r left
          other = rw (ne_eqb _ _ z) refl
