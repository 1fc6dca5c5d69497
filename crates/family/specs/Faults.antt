-- The faults of a message of a family, of writing one, and of reading and
-- writing again, in the paper's order.
use Rattle.std.specs.Prelude.{ℕ, ◌<◌, ◌≡◌, List, [], ◌∷◌, ◌++◌, ◌⊎◌, Option, Some, None, length}
use Rattle.octets.specs.Octet.{octet}
use Rattle.octets.specs.Faults.{Fault, fault}
use Rattle.octets.specs.Filled.{room_fault}
use Rattle.parts.specs.declared.Parts.{Parts}
use Rattle.layout.specs.Faults.{message_faults}
use Rattle.layout.specs.Laid.{Framed}
use Rattle.layout.specs.declared.Shape.{Shape}
use Rattle.writing.specs.Write.{Order, order_octets}
use Rattle.writing.specs.Faults.{Exceeds, parts_faults}
use Rattle.writing.specs.Compact.{said_with, said_by}
use Rattle.family.specs.Family.{Family, family_write_in, rewrite_in, family_compact_in}

-- the reader's: 1, 2, 3, 4; each variable pointer in turn 5 then 6; the
-- optional pointer 5 then 7; then 8
abbrev pub family_faults : Family → List ℕ → List Fault
family_faults F m = message_faults m F.width F.most (F.row (octet m F.width))

-- 3: the type is not in the table; a type is an octet
abbrev pub NoType : Family → ℕ → Type 0
NoType F kind = (255 < kind) ⊎ (F.row kind ≡ None)

-- what is wrong for a type that the table has: 10, 11, 12, 2
abbrev pub shape_faults : Option Shape → ℕ → Order → List Fault
shape_faults (Some s) most o = parts_faults s most o
shape_faults None most o = []

-- the writer's: 3, 10, 11, 12, 2
abbrev pub family_writer_faults : Family → Order → List Fault
family_writer_faults F o = fault 3 0 (NoType F o.kind) ∷ shape_faults (F.row o.kind) F.most o

-- then 13, where the lent output is too short
abbrev pub family_write_faults : Family → Order → List ℕ → List Fault
family_write_faults F o buffer = family_writer_faults F o ++ (room_fault (family_write_in F o) buffer ∷ [])

-- 12 where the compact form of what the message says cannot hold a length or a pointer
abbrev pub CannotHold : List ℕ → ℕ → ℕ → Option Shape → Type 0
CannotHold m w most r = (p : Parts) × (f : Framed m w most r p) × Exceeds f.shape (said_by m w p)

-- 2 where a header that is wider than said makes the compact form longer than the longest message
abbrev pub TooLong : List ℕ → ℕ → ℕ → Option Shape → List ℕ → Type 0
TooLong m w most r head =
    (p : Parts) × (f : Framed m w most r p)
    × (most < length (order_octets f.shape (said_with head m w p)))

-- of reading and writing again with a row and any header: the reader's, 12, 2, 13
abbrev pub rewrite_faults : List ℕ → ℕ → ℕ → Option Shape → List ℕ → List ℕ → List Fault
rewrite_faults m w most r head buffer =
    (message_faults m w most r
    ++ (fault 12 0 (CannotHold m w most r) ∷ fault 2 0 (TooLong m w most r head) ∷ []))
    ++ (room_fault (rewrite_in m w most r head) buffer ∷ [])

-- of a family, with a header of its width: the reader's, 12, 13
abbrev pub again_faults : Family → List ℕ → List Fault
again_faults F m =
    family_faults F m
    ++ (fault 12 0 (CannotHold m F.width F.most (F.row (octet m F.width))) ∷ [])

-- R19. then 13, where the lent output is too short
abbrev pub family_compact_faults : Family → List ℕ → List ℕ → List ℕ → List Fault
family_compact_faults F head m buffer =
    again_faults F m ++ (room_fault (family_compact_in F head m) buffer ∷ [])
