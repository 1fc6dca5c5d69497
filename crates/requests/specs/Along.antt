-- What a line asks, along the line. Words stand apart by one space: a field is the word after the
-- space at octet `at`, at which the word before ends. The octets that its fields stand for are put
-- into a lent scratch, one field after the other.
use Rattle.std.specs.Prelude.{ℕ, suc, ◌+◌, ◌-◌, List, [], ◌∷◌, ◌++◌, map, ltb, leb, eqb, length, take, replicate, Option, Some, None}
use Rattle.octets.specs.Octet.{octets}
use Rattle.octets.specs.Choice.{when◌then◌else◌}
use Rattle.words.specs.Words.{word_end_lem, same}
use Rattle.fields.specs.declared.Field.{Field}
use Rattle.fields.specs.Placed.{no_field, entered, placed}
use Rattle.fields.specs.Kinds.{Kind, FieldSays, field_says, Found, found, lost, leading, or_else}
use Rattle.forms.specs.Table.{Form, forms, kinds_of}
use Rattle.forms.specs.Rows.{BAD}
use Rattle.requests.specs.declared.Request.{Request}
use Rattle.requests.specs.Words.{line_most, fields_most, Asked, asks, nothing}

-- the octets of the line from one place up to another
abbrev pub between : List ℕ → ℕ → ℕ → List ℕ
between line from to = octets line from (to - from)

-- the word that the field at `at` is
abbrev pub word_at : List ℕ → ℕ → List ℕ
word_at line at = between line (at + 1) (word_end_lem line (at + 1))

-- the fields of a line, where its form fits, and the scratch
pub record Along : Type 0 where
  pub fit : Found (List Field)
  pub left : List ℕ

-- both
abbrev pub along : Found (List Field) → List ℕ → Along
along fit left = record { fit = fit; left = left }

-- one field more at the front
abbrev pub heading : Field → Along → Along
heading f a = along (leading f a.fit) a.left

-- go on with a number, and the scratch as it was left
abbrev pub going : Option ℕ → List ℕ → (ℕ → List ℕ → Along) → Along
going (Some v) left rest = rest v left
going None left rest = along lost left

-- the fields of a line after the word that ends at `at`, which stands for the number `before`: one
-- for each kind, and the last ends the line
unfoldable pub fields_of : List Kind → ℕ → List ℕ → ℕ → List ℕ → ℕ → Along
fields_of [] before line at scratch next =
    along (when eqb at (length line) then found [] else lost) scratch
fields_of (k ∷ ks) before line at scratch next =
    when leb (length line) at then along lost scratch
    else going (entered k before (word_at line at) scratch next).count
    (entered k before (word_at line at) scratch next).left
    (λ v left. heading (placed k v next) (fields_of ks (placed k v next).value line (word_end_lem line (at + 1)) left (next + (placed k v next).count)))

-- a row with its fields in an array of eight
abbrev pub request : ℕ → List Field → Request
request which fs =
    record { which = which; fields = fs ++ replicate (fields_most - length fs) no_field }

-- a line that asks nothing
abbrev pub bad : Request
bad = request BAD []

-- what a line asks, and the scratch with its octets
pub record Asking : Type 0 where
  pub request : Request
  pub left : List ℕ

-- both
abbrev pub taken : Request → List ℕ → Asking
taken request left = record { request = request; left = left }

-- what a row's fields along the line ask
abbrev pub taken_by : ℕ → Along → Asking
taken_by which a = taken (or_else a.fit (request which) bad) a.left

-- the same; where they do not fit, go on with the scratch as it was left
abbrev pub tried : ℕ → Found (List Field) → List ℕ → (List ℕ → Asking) → Asking
tried which (found fs) left rest = taken (request which fs) left
tried which lost left rest = rest left

-- the first form, from row `which` on, whose word is the line's first, which ends at `at`, and
-- whose fields are those of the line
unfoldable pub first_form : List Form → ℕ → List ℕ → ℕ → List ℕ → Asking
first_form [] which line at scratch = taken bad scratch
first_form (f ∷ fs) which line at scratch =
    when same (take at line) f.word
    then tried which (fields_of (kinds_of f) 0 line at scratch 0).fit
    (fields_of (kinds_of f) 0 line at scratch 0).left
    (λ left. first_form fs (suc which) line at left)
    else first_form fs (suc which) line at scratch

-- what a line asks; one that is too long asks nothing
unfoldable pub request_of_lem : List ℕ → List ℕ → Asking
request_of_lem line scratch =
    when ltb line_most (length line) then taken bad scratch
    else first_form forms 0 line (word_end_lem line 0) scratch

-- what a field says, with its octets in the scratch
abbrev pub said_at : List ℕ → Field → FieldSays
said_at scratch f = field_says f.value (octets scratch f.from f.count)

-- what the fields of a request say
abbrev pub said_in : List ℕ → List Field → List FieldSays
said_in scratch fs = map (said_at scratch) fs

-- what is asked by a request and the scratch
abbrev pub says_of : Asking → Asked
says_of t =
    when eqb t.request.which BAD then nothing
    else asks t.request.which (said_in t.left t.request.fields)
