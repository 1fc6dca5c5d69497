-- A text, as its octets.
use Rattle.std.specs.Prelude.{ℕ, List, [], ◌∷◌}
use Prim.Native.Char.{code}
use Prim.Native.String.{String, [] as ended, ◌∷◌ as ◌then◌}

-- the octets of a text that has no letter beyond ASCII
abbrev pub said : String → List ℕ
said ended = []
said (c then s) = code c ∷ said s
