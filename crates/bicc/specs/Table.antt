-- The table of types: ISUP's, without the types that the standard marks as ISUP only.
use Rattle.std.specs.Prelude.{ℕ, List, [], ◌∷◌, Option, None}
use Rattle.octets.specs.Choice.{when◌then◌else◌}
use Rattle.octets.specs.Among.{among}
use Rattle.layout.specs.declared.Shape.{Shape}
use Rattle.family.specs.Family.{Family}
use Rattle.isup.specs.Types.{BLO, UBL, BLA, UBA}
use Rattle.isup.specs.Table.{shape_of as isup_shape_of}

-- R50. the types of our table that are marked 'ISUP only' (source document 004, Table 1)
abbrev pub isup_only : List ℕ
isup_only = BLO ∷ UBL ∷ BLA ∷ UBA ∷ []

-- what the table says of a type octet
unfoldable pub call_shape_of : ℕ → Option Shape
call_shape_of t = when among t isup_only then None else isup_shape_of t

-- a message has 270 octets at the most
abbrev pub longest_call : ℕ
longest_call = 270

-- four octets of code before the type
abbrev pub bicc : Family
bicc = record { width = 4; most = longest_call; row = call_shape_of }
