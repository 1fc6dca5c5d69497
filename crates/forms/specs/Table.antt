-- The forms of the desk's requests, a row for each. tools/forms writes from it what the code and
-- the proofs say row by row, and holds README.md to it.
use Rattle.std.specs.Prelude.{ℕ, zero, suc, List, [], ◌∷◌, map}
use Prim.Native.String.{String}
use Rattle.words.specs.Said.{said}
use Rattle.fields.specs.Kinds.{Kind}
use Rattle.fields.specs.Letters.{kind_of}

-- a request's form: its word, and a letter for the kind of each field
pub record Form : Type 0 where
  pub word : List ℕ
  pub letters : List ℕ

-- a form by its texts
abbrev row : String → String → Form
row word letters = record { word = said word; letters = said letters }

-- the rows; those of one family stand together, and so do the two forms of one word, of which a
-- line has the first that fits
abbrev pub forms : List Form
forms =
    row "shape" "o"
    ∷ row "read" "s"
    ∷ row "write" "nossssr"
    ∷ row "compact" "sr"
    ∷ row "find" "oss"
    ∷ row "number" "sr"
    ∷ row "dial" "nnnsr"
    ∷ row "own" "clv"
    ∷ row "helper" "clv"
    ∷ row "set" "clv"
    ∷ row "rows" "cl"
    ∷ row "act" "nsr"
    ∷ row "block" "nr"
    ∷ row "unblock" "nr"
    ∷ row "velocity" "ww"
    ∷ row "velocity" "wwww"
    ∷ row "velocity-back" "hh"
    ∷ row "velocity-back" "hhvw"
    ∷ row "bicc-shape" "o"
    ∷ row "bicc-read" "s"
    ∷ row "bicc-write" "nossssr"
    ∷ row "bicc-compact" "sr"
    ∷ row "sccp-shape" "o"
    ∷ row "sccp-read" "s"
    ∷ row "sccp-write" "osssssr"
    ∷ row "sccp-compact" "sr"
    ∷ row "list" "s"
    ∷ row "bicc-list" "s"
    ∷ row "sccp-list" "s"
    ∷ row "busy" "nn"
    ∷ row "totals" ""
    ∷ row "total" "bv"
    ∷ row "rebuild" ""
    ∷ row "tick" "clv"
    ∷ row "plan" "nnp"
    ∷ row "check" "nnq"
    ∷ []

-- the kinds of a form's fields
abbrev pub kinds_of : Form → List Kind
kinds_of f = map kind_of f.letters

-- the kinds of a row's fields; none past the last row
abbrev pub kinds_at : List Form → ℕ → List Kind
kinds_at [] which = []
kinds_at (f ∷ fs) zero = kinds_of f
kinds_at (f ∷ fs) (suc which) = kinds_at fs which
