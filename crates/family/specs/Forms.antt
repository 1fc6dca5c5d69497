-- A well-formed message of a family, and one in compact form, as the paper
-- says it: no order of reading.
use Rattle.std.specs.Prelude.{ℕ, ◌≡◌, List}
use Rattle.octets.specs.Octet.{octet}
use Rattle.parts.specs.declared.Parts.{Parts}
use Rattle.layout.specs.Laid.{Framed}
use Rattle.writing.specs.Compact.{Compact, said_with, said_by}
use Rattle.family.specs.Family.{Family}

-- a message of the family, and its parts: a header and a type octet, no longer than the longest, a
-- type of the table, and laid out as the type's row says
abbrev pub FamilyFormed : Family → List ℕ → Parts → Type 0
FamilyFormed F m p = Framed m F.width F.most (F.row (octet m F.width)) p

-- in compact form: variable parameters in pointer order right after the pointers, optional part
-- next, nothing between or after; optional pointer 0 if there are no optional parameters
pub record FamilyCompact (F : Family) (m : List ℕ) (p : Parts) : Type 0 where
  pub formed : FamilyFormed F m p
  pub tight : Compact m F.width formed.shape p formed.params

-- the octets ys are a message in compact form that says what message m says,
-- whose parts are p, with that header
abbrev pub FamilySays : Family → List ℕ → List ℕ → Parts → List ℕ → Type 0
FamilySays F head m p ys =
    (q : Parts) × FamilyCompact F ys q × (said_by ys F.width q ≡ said_with head m F.width p)
