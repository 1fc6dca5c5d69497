-- A family of messages with its reader and its writer, said once. Header, longest message and table
-- are what differs between families.
use Rattle.std.specs.Prelude.{ℕ, List, Option, Some, None, ltb}
use Rattle.octets.specs.Choice.{when◌then◌else◌}
use Rattle.octets.specs.Answer.{Answer, refused, ◌then◌}
use Rattle.octets.specs.Filled.{Done, done, room_for}
use Rattle.parts.specs.declared.Parts.{Parts}
use Rattle.layout.specs.Container.{kind_at, parts_of}
use Rattle.layout.specs.declared.Shape.{Shape}
use Rattle.writing.specs.Write.{Order, written_of}
use Rattle.writing.specs.Compact.{said_with}

-- R49, R52. a family: how many octets stand before the type octet, how many octets the longest
-- message has, and what the table says of each type octet
pub record Family : Type 0 where
  pub width : ℕ
  pub most : ℕ
  pub row : ℕ → Option Shape

-- the reader: where the parts of a message stand, or the first of the reader's
-- numbers with the octet that it is about
abbrev pub read_in : Family → List ℕ → Answer Parts
read_in F m = parts_of m F.width F.most (F.row (kind_at m F.width))

-- 3 for a type that is not in the table; then 10, 11, 12, 2
abbrev pub of_shape : Option Shape → ℕ → Order → Answer (ℕ × List ℕ)
of_shape (Some s) most o = written_of s most o
of_shape None most o = refused 3 0

-- the writer: a type is an octet, so 3 above 255
abbrev pub family_write_in : Family → Order → Answer (ℕ × List ℕ)
family_write_in F o =
    when ltb 255 o.kind then refused 3 0 else of_shape (F.row o.kind) F.most o

-- all that writing does: how many octets were written, or the refusal, 13
-- last; and the buffer afterwards
abbrev pub family_write_of : Family → Order → List ℕ → Done ℕ
family_write_of F o buffer = done buffer (family_write_in F o then room_for buffer)

-- what a message says that has these parts, written again with that header
abbrev pub again_in : List ℕ → ℕ → ℕ → Option Shape → List ℕ → Parts → Answer (ℕ × List ℕ)
again_in m w most r head p = of_shape r most (said_with head m w p)

-- reading and writing again, where the header has that width, the longest message has
-- `most` octets, and the row is that of the message's type: the reader's refusals with
-- their octets, then the writer's
abbrev pub rewrite_in : List ℕ → ℕ → ℕ → Option Shape → List ℕ → Answer (ℕ × List ℕ)
rewrite_in m w most r head = parts_of m w most r then again_in m w most r head

-- all that it does: how many octets were written, or the refusal, 13 last;
-- and the buffer afterwards
unfoldable pub rewrite_of : List ℕ → ℕ → ℕ → Option Shape → List ℕ → List ℕ → Done ℕ
rewrite_of m w most r head buffer = done buffer (rewrite_in m w most r head then room_for buffer)

-- the same of a family
abbrev pub family_compact_in : Family → List ℕ → List ℕ → Answer (ℕ × List ℕ)
family_compact_in F head m = rewrite_in m F.width F.most (F.row (kind_at m F.width)) head

-- all that it does
abbrev pub family_compact_of : Family → List ℕ → List ℕ → List ℕ → Done ℕ
family_compact_of F head m buffer = done buffer (family_compact_in F head m then room_for buffer)
