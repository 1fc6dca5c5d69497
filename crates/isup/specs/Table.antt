-- The table of types: octets of the fixed part, variable parameters, and
-- whether there is an optional part.
use Rattle.std.specs.Prelude.{ℕ, true, false, List, [], ◌∷◌, Option}
use Rattle.layout.specs.declared.Shape.{Shape}
use Rattle.family.specs.Table.{line, look}
use Rattle.family.specs.Family.{Family}
use Rattle.isup.specs.Limits.{longest}
use Rattle.isup.specs.Types.{IAM, SAM, COT, ACM, CON, ANM, REL, SUS, RES, RLC, RSC, BLO, UBL, BLA, UBA, GRS, CGB, CGU, CGBA, CGUA, GRA, CQM, CQR, CPG}

-- R14. the table, a line for each shape row
abbrev pub table : List (List ℕ × Shape)
table =
    line (IAM ∷ []) 5 1 true
    ∷ line (SAM ∷ REL ∷ []) 0 1 true
    ∷ line (COT ∷ []) 1 0 false
    ∷ line (ACM ∷ CON ∷ []) 2 0 true
    ∷ line (ANM ∷ RLC ∷ []) 0 0 true
    ∷ line (SUS ∷ RES ∷ CPG ∷ []) 1 0 true
    ∷ line (RSC ∷ BLO ∷ UBL ∷ BLA ∷ UBA ∷ []) 0 0 false
    ∷ line (GRS ∷ GRA ∷ CQM ∷ []) 0 1 false
    ∷ line (CGB ∷ CGU ∷ CGBA ∷ CGUA ∷ []) 1 1 false
    ∷ line (CQR ∷ []) 0 2 false
    ∷ []

-- R14. what the table says of a type octet
unfoldable pub shape_of : ℕ → Option Shape
shape_of t = look t table

-- two octets of circuit number before the type, and 268 octets at the most
abbrev pub isup : Family
isup = record { width = 2; most = longest; row = shape_of }
