-- The 18 types, and no other octet. The look-up table of 256 says the same.
use Prim.Native.Nat.{ℕ, ◌≤◌, ◌<◌}
use mathlib.Core.Path.{◌≡◌, refl}
use mathlib.Core.Bool.{true, false}
use mathlib.Core.List.{List, [], ◌∷◌}
use mathlib.Core.Logic.{◌↔◌}
use native.Mathlib.Omega.{arith}
use lib.ListN.{length}
use Rattle.std.specs.Prelude.{Some, None}
use Rattle.octets.specs.Among.{OneOf}
use Rattle.octets.specs.Octet.{octet}
use Rattle.layout.specs.declared.Shape.{Shape}
use Rattle.layout.specs.Packed.{unpacked_of}
use Rattle.layout.proofs.Packed.{table_of, table-rows}
use Rattle.family.proofs.Table.{no_two, all_low, look-listed, listed-look, look-at-most}
use Rattle.sccp.specs.Table.{sccp_table, sccp_shape_of}

-- CR; CC RLSD RSR; CREF ERR; RLC RSC; DT1; DT2; AK; UDT UDTS; ED; EA; IT; XUDT XUDTS
abbrev pub sccp_octets : List ℕ
sccp_octets =
    0x01 ∷ 0x02 ∷ 0x04 ∷ 0x0D ∷ 0x03 ∷ 0x0F ∷ 0x05 ∷ 0x0E ∷ 0x06 ∷ 0x07 ∷ 0x08
    ∷ 0x09 ∷ 0x0A ∷ 0x0B ∷ 0x0C ∷ 0x10 ∷ 0x11 ∷ 0x12 ∷ []

-- 18 of the 256 octets
pub eighteen : (length sccp_octets ≡ 18) × (no_two sccp_octets ≡ true) × (all_low sccp_octets ≡ true)
eighteen = (refl, refl, refl)

-- the table has a row for these, and for no other number
pub sccp-types : (t : ℕ) → ((s : Shape) × (sccp_shape_of t ≡ Some s)) ↔ OneOf t sccp_octets
unfolding sccp_shape_of
sccp-types t = (λ x. look-listed t sccp_table x.0 x.1, λ o. listed-look t sccp_table o)

-- the rows in which one pointer or three are easily taken for another: RSR and ERR have an optional
-- part and no variable one, UDT and UDTS have three variable parts
pub pointers-told : (sccp_shape_of 0x0D ≡ Some (record { fixed = 7; vars = 0; opt = true }))
    × (sccp_shape_of 0x0F ≡ Some (record { fixed = 4; vars = 0; opt = true }))
    × (sccp_shape_of 0x09 ≡ Some (record { fixed = 1; vars = 3; opt = false }))
    × (sccp_shape_of 0x0A ≡ Some (record { fixed = 1; vars = 3; opt = false }))
unfolding sccp_shape_of
pointers-told = (refl, refl, refl, refl)

-- LUDT and LUDTS are refused
pub ludts-refused : (sccp_shape_of 0x13 ≡ None) × (sccp_shape_of 0x14 ≡ None)
unfolding sccp_shape_of
ludts-refused = (refl, refl)

-- a row has at most three variable parts
pub three : (t : ℕ) (s : Shape) → sccp_shape_of t ≡ Some s → s.vars ≤ 3
unfolding sccp_shape_of
three t s e =
    look-at-most 3 t sccp_table s
    (omega arith, (omega arith, (omega arith, (omega arith, (omega arith, (omega arith, (omega arith, (omega arith, (omega arith, (omega arith, (omega arith, (omega arith, tt)))))))))))) e

-- the look-up table says what the lines say, at each of the 256 octets; the proof of `shape_of`
-- computes that it is the code's
pub table-says : (k : ℕ) → k < 256 → unpacked_of (octet (table_of sccp_shape_of) k) ≡ sccp_shape_of k
table-says = table-rows sccp_shape_of three
