-- The table of types (source document 002, Table 1 and section 4): octets of the fixed part,
-- variable parameters, and whether there is an optional part.
-- LUDT and LUDTS have pointers of two octets and are not in it. RSR and ERR have a pointer to an
-- optional part, though no optional parameter is defined for them yet (footnote 1 of Table 1).
use Rattle.std.specs.Prelude.{ℕ, true, false, List, [], ◌∷◌, Option}
use Rattle.layout.specs.declared.Shape.{Shape}
use Rattle.family.specs.Table.{line, look}
use Rattle.family.specs.Family.{Family}

-- R53. the table, a line for each shape row: CR; CC, RLSD, RSR; CREF, ERR; RLC, RSC; DT1; DT2; AK;
-- UDT, UDTS; ED; EA; IT; XUDT, XUDTS
abbrev pub sccp_table : List (List ℕ × Shape)
sccp_table =
    line (0x01 ∷ []) 4 1 true
    ∷ line (0x02 ∷ 0x04 ∷ 0x0D ∷ []) 7 0 true
    ∷ line (0x03 ∷ 0x0F ∷ []) 4 0 true
    ∷ line (0x05 ∷ 0x0E ∷ []) 6 0 false
    ∷ line (0x06 ∷ []) 4 1 false
    ∷ line (0x07 ∷ []) 5 1 false
    ∷ line (0x08 ∷ []) 5 0 false
    ∷ line (0x09 ∷ 0x0A ∷ []) 1 3 false
    ∷ line (0x0B ∷ []) 3 1 false
    ∷ line (0x0C ∷ []) 3 0 false
    ∷ line (0x10 ∷ []) 10 0 false
    ∷ line (0x11 ∷ 0x12 ∷ []) 2 3 true
    ∷ []

-- what the table says of a type octet
unfoldable pub sccp_shape_of : ℕ → Option Shape
sccp_shape_of t = look t sccp_table

-- a message has 268 octets at the most
abbrev pub longest_sccp : ℕ
longest_sccp = 268

-- no octet stands before the type
abbrev pub sccp : Family
sccp = record { width = 0; most = longest_sccp; row = sccp_shape_of }
