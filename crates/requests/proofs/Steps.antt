-- A step along the fields of a line.
use Rattle.std.specs.Prelude.{Some, None}
use Prim.Native.Nat.{ℕ, zero, suc, ◌+◌, ◌-◌, ◌/◌, ◌%◌, ◌≤◌, ◌<◌}
use mathlib.Core.Path.{◌≡◌, refl, sym, ◌∙◌, ap}
use mathlib.Core.List.{List, [], ◌∷◌, ◌++◌, append_assoc}
use native.Mathlib.Omega.{arith}
use borrow.Author.Tests.{le-leb, lt-leb, eq-eqb, ne_eqb}
use lib.ListN.{length, set, replicate, length-append}
use lib.Seq.{set_at}
use Rattle.words.specs.Words.{word_end_lem}
use Rattle.words.specs.Into.{entry}
use Rattle.fields.specs.declared.Field.{Field}
use Rattle.fields.specs.Kinds.{Kind, Found, found, lost, leading}
use Rattle.fields.specs.Letters.{kind_of}
use Rattle.fields.specs.Placed.{no_field, entered, placed}
use Rattle.forms.specs.Inside.{kinds_in}
use Rattle.requests.specs.Along.{between, Along, along, heading, fields_of, request, bad, Asking, taken, taken_by}

-- fields that were read, and then the rest
abbrev past : List Field → Found (List Field) → Found (List Field)
past done (found fs) = found (done ++ fs)
past done lost = lost

-- what is asked, by the fields that were read and the rest
abbrev pub answer : ℕ → List Field → Along → Asking
answer which done a = taken_by which (along (past done a.fit) a.left)

answer-more : (which : ℕ) (done : List Field) (f : Field) (a : Along) → answer which done (heading f a) ≡ answer which (done ++ (f ∷ [])) a
answer-more which done f a = go a.fit
  where
    go : (x : Found (List Field)) → taken_by which (along (past done (leading f x)) a.left) ≡ taken_by which (along (past (done ++ (f ∷ [])) x) a.left)
    go (found fs) = ap (λ l. taken (request which l) a.left) (sym (append_assoc done (f ∷ []) fs))
    go lost = refl

-- the letters that are left
pub letters-none : (n letters : ℕ) → letters ≡ 0 → kinds_in n letters ≡ []
unfolding kinds_in
letters-none zero letters e = refl
letters-none (suc n) letters e = rw (eq-eqb _ _ e) refl

letters-more : (n m letters : ℕ) → n ≡ suc m → (letters ≡ 0 → ⊥) → kinds_in n letters ≡ kind_of (letters % 256) ∷ kinds_in m (letters / 256)
unfolding kinds_in
letters-more n m letters e h = rw (e, ne_eqb _ _ h) refl

pub letters-out : (n letters : ℕ) → n ≡ 0 → kinds_in n letters ≡ []
unfolding kinds_in
letters-out n letters e = rw e refl

module _ (line : List ℕ) (at : ℕ) (scratch : List ℕ) (next : ℕ) where
  -- the line ends
  pub fields-ended : (before : ℕ) → at ≡ length line → fields_of [] before line at scratch next ≡ along (found []) scratch
  unfolding fields_of
  fields-ended before e = rw (eq-eqb _ _ e) refl

  -- it goes on
  pub fields-left : (before : ℕ) → (at ≡ length line → ⊥) → fields_of [] before line at scratch next ≡ along lost scratch
  unfolding fields_of
  fields-left before e = rw (ne_eqb _ _ e) refl

  module _ (k : Kind) (ks : List Kind) (before : ℕ) where
    -- a field is not there
    pub field-missing : length line ≤ at → fields_of (k ∷ ks) before line at scratch next ≡ along lost scratch
    unfolding fields_of
    field-missing h = rw (le-leb _ _ h) refl

    module _ (h : at < length line) (to : ℕ) (e : to ≡ word_end_lem line (at + 1)) (left : List ℕ) where
      -- it breaks its rule
      pub field-broken : entry None left ≡ entered k before (between line (at + 1) to) scratch next → fields_of (k ∷ ks) before line at scratch next ≡ along lost left
      unfolding fields_of
      field-broken n = let w = rw e at n in rw (lt-leb _ _ h, ← w) refl

      -- it is there
      pub field-there : (v : ℕ) → entry (Some v) left ≡ entered k before (between line (at + 1) to) scratch next
          → fields_of (k ∷ ks) before line at scratch next ≡ heading (placed k v next) (fields_of ks (placed k v next).value line to left (next + (placed k v next).count))
      unfolding fields_of
      field-there v n = let w = rw e at n in rw (lt-leb _ _ h, ← w, e) refl

-- one field more in the array
put : (done : List Field) (i j : ℕ) (f : Field) → length done ≡ i → 8 - i ≡ suc j → set (done ++ replicate (8 - i) no_field) i f ≡ (done ++ (f ∷ [])) ++ replicate j no_field
put done i j f l e = rw (e, set_at done no_field (replicate j no_field) f i l, append_assoc) refl

append-none : (l : List Field) → l ++ [] ≡ l
append-none [] = refl
append-none (x ∷ xs) = ap (λ l. x ∷ l) (append-none xs)

-- at the first field
pub started : (which : ℕ) (a : Along) → answer which [] a ≡ taken_by which a
started which a = go a.fit
  where
    go : (x : Found (List Field)) → taken_by which (along (past [] x) a.left) ≡ taken_by which (along x a.left)
    go (found fs) = refl
    go lost = refl

-- where i fields were read, and the answer is what they and the rest make
module _ (line : List ℕ) (letters which i before at : ℕ) (scratch : List ℕ) (next : ℕ) (done : List Field) (g : Asking)
    (E : answer which done (fields_of (kinds_in (8 - i) letters) before line at scratch next) ≡ g) where
  -- none is left
  pub finished : (fields : List Field) → length done ≡ i → fields ≡ done ++ replicate (8 - i) no_field → kinds_in (8 - i) letters ≡ [] → at ≡ length line → taken (record { which = which; fields = fields }) scratch ≡ g
  finished fields l f k e =
      let x : fields_of (kinds_in (8 - i) letters) before line at scratch next ≡ along (found []) scratch = ap (λ ks. fields_of ks before line at scratch next) k ∙ fields-ended line at scratch next before e in
      let r : taken (record { which = which; fields = fields }) scratch ≡ taken (request which done) scratch = rw (f, l) refl in
      r ∙ ap (λ d. taken (request which d) scratch) (sym (append-none done)) ∙ ap (λ y. answer which done y) (sym x) ∙ E

  broken : (left : List ℕ) → fields_of (kinds_in (8 - i) letters) before line at scratch next ≡ along lost left → taken bad left ≡ g
  broken left x = ap (λ y. answer which done y) (sym x) ∙ E

  -- the line goes on
  pub left_over : kinds_in (8 - i) letters ≡ [] → (at ≡ length line → ⊥) → taken bad scratch ≡ g
  left_over k e = broken scratch (ap (λ ks. fields_of ks before line at scratch next) k ∙ fields-left line at scratch next before e)

  module _ (h : i < 8) (some : letters ≡ 0 → ⊥) where
    one_more : kinds_in (8 - i) letters ≡ kind_of (letters % 256) ∷ kinds_in (8 - (i + 1)) (letters / 256)
    one_more = letters-more (8 - i) (8 - (i + 1)) letters (omega arith) some

    -- a field is not there
    pub lacking : length line ≤ at → taken bad scratch ≡ g
    lacking e = broken scratch (ap (λ ks. fields_of ks before line at scratch next) one_more ∙ field-missing line at scratch next _ _ before e)

    module _ (there : at < length line) (to : ℕ) (e : to ≡ word_end_lem line (at + 1)) (left : List ℕ) where
      -- it breaks its rule
      pub breaking : entry None left ≡ entered (kind_of (letters % 256)) before (between line (at + 1) to) scratch next → taken bad left ≡ g
      breaking n = broken left (ap (λ ks. fields_of ks before line at scratch next) one_more ∙ field-broken line at scratch next _ _ before there to e left n)

      -- it is there
      pub reading : (v : ℕ) → entry (Some v) left ≡ entered (kind_of (letters % 256)) before (between line (at + 1) to) scratch next → (f : Field) → f ≡ placed (kind_of (letters % 256)) v next
          → answer which (done ++ (f ∷ [])) (fields_of (kinds_in (8 - (i + 1)) (letters / 256)) f.value line to left (next + f.count)) ≡ g
      reading v n f p =
          ap (λ (x : Field). answer which (done ++ (x ∷ [])) (fields_of (kinds_in (8 - (i + 1)) (letters / 256)) x.value line to left (next + x.count))) p
          ∙ sym (answer-more which done (placed (kind_of (letters % 256)) v next) (fields_of (kinds_in (8 - (i + 1)) (letters / 256)) (placed (kind_of (letters % 256)) v next).value line to left (next + (placed (kind_of (letters % 256)) v next).count)))
          ∙ ap (λ y. answer which done y) (sym (ap (λ ks. fields_of ks before line at scratch next) one_more ∙ field-there line at scratch next _ _ before there to e left v n)) ∙ E

-- the array with one more
pub stored : (done fields : List Field) (i : ℕ) (f : Field) → i < 8 → length done ≡ i → fields ≡ done ++ replicate (8 - i) no_field
    → (length (done ++ (f ∷ [])) ≡ i + 1) × (set fields i f ≡ (done ++ (f ∷ [])) ++ replicate (8 - (i + 1)) no_field)
stored done fields i f h l e = (simp length-append (omega arith), rw e (put done i (8 - (i + 1)) f l (omega arith)))
