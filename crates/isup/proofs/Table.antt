-- The table counted: exactly 24 octets are types, and these are they. The
-- look-up table of 256 says the same.
use Prim.Native.Nat.{ℕ, ◌≤◌, ◌<◌}
use mathlib.Core.Path.{◌≡◌, refl}
use mathlib.Core.Bool.{Bool, true, false}
use mathlib.Core.List.{List, [], ◌∷◌}
use mathlib.Core.Logic.{inl, ⊎_elim, ◌↔◌}
use native.Mathlib.Omega.{arith}
use lib.ListN.{length}
use Rattle.std.specs.Prelude.{Option, Some, None}
use Rattle.octets.specs.Among.{OneOf}
use Rattle.octets.specs.Octet.{octet}
use Rattle.layout.specs.declared.Shape.{Shape}
use Rattle.layout.specs.Faults.{NoRow}
use Rattle.layout.specs.Packed.{unpacked_of}
use Rattle.layout.proofs.Packed.{table_of, table-rows}
use Rattle.family.proofs.Table.{no_two, all_low, look-listed, listed-look, look-at-most}
use Rattle.isup.specs.Table.{table, shape_of}

-- the types of document 01's table, row by row
abbrev pub type_octets : List ℕ
type_octets =
    0x01
    ∷ 0x02 ∷ 0x0C
    ∷ 0x05
    ∷ 0x06 ∷ 0x07
    ∷ 0x09 ∷ 0x10
    ∷ 0x0D ∷ 0x0E ∷ 0x2C
    ∷ 0x12 ∷ 0x13 ∷ 0x14 ∷ 0x15 ∷ 0x16
    ∷ 0x17 ∷ 0x29 ∷ 0x2A
    ∷ 0x18 ∷ 0x19 ∷ 0x1A ∷ 0x1B
    ∷ 0x2B
    ∷ []

-- 24 of the 256 octets
pub types-counted : (length type_octets ≡ 24) × (no_two type_octets ≡ true) × (all_low type_octets ≡ true)
types-counted = (refl, refl, refl)

-- a type octet: fixed octets, variable parts, and whether there is an optional part
pub record Entry : Type 0 where
  pub octet : ℕ
  pub fixed : ℕ
  pub vars : ℕ
  pub opt : Bool

abbrev entry : ℕ → ℕ → ℕ → Bool → Entry
entry t f v o = record { octet = t; fixed = f; vars = v; opt = o }

-- the same table by octets, from the smallest on
abbrev pub entries : List Entry
entries =
    entry 0x01 5 1 true
    ∷ entry 0x02 0 1 true
    ∷ entry 0x05 1 0 false
    ∷ entry 0x06 2 0 true
    ∷ entry 0x07 2 0 true
    ∷ entry 0x09 0 0 true
    ∷ entry 0x0C 0 1 true
    ∷ entry 0x0D 1 0 true
    ∷ entry 0x0E 1 0 true
    ∷ entry 0x10 0 0 true
    ∷ entry 0x12 0 0 false
    ∷ entry 0x13 0 0 false
    ∷ entry 0x14 0 0 false
    ∷ entry 0x15 0 0 false
    ∷ entry 0x16 0 0 false
    ∷ entry 0x17 0 1 false
    ∷ entry 0x18 1 1 false
    ∷ entry 0x19 1 1 false
    ∷ entry 0x1A 1 1 false
    ∷ entry 0x1B 1 1 false
    ∷ entry 0x29 0 1 false
    ∷ entry 0x2A 0 1 false
    ∷ entry 0x2B 0 2 false
    ∷ entry 0x2C 1 0 true
    ∷ []

-- the shape row of each is what its entry says
abbrev pub Said : List Entry → Type 0
Said [] = Unit {0}
Said (x ∷ xs) = (shape_of x.octet ≡ Some (record { fixed = x.fixed; vars = x.vars; opt = x.opt })) × Said xs

pub rows-said : (length entries ≡ 24) × Said entries
unfolding shape_of
rows-said = (refl, (refl, (refl, (refl, (refl, (refl, (refl, (refl, (refl, (refl, (refl, (refl, (refl, (refl, (refl, (refl, (refl, (refl, (refl, (refl, (refl, (refl, (refl, (refl, (refl, tt)))))))))))))))))))))))))

-- the table has a row for these, and for no other number
pub types-exactly : (t : ℕ) → ((s : Shape) × (shape_of t ≡ Some s)) ↔ OneOf t type_octets
unfolding shape_of
types-exactly t = (λ x. look-listed t table x.0 x.1, λ o. listed-look t table o)

-- a row of the table has at most two variable parts
pub table-two : (t : ℕ) (s : Shape) → shape_of t ≡ Some s → s.vars ≤ 2
unfolding shape_of
table-two t s e =
    look-at-most 2 t table s
    (omega arith, (omega arith, (omega arith, (omega arith, (omega arith, (omega arith, (omega arith, (omega arith, (omega arith, (omega arith, tt)))))))))) e

-- so 3 is given exactly for a type that is none of them
pub three-exactly : (t : ℕ) → NoRow (shape_of t) ↔ (OneOf t type_octets → ⊥)
three-exactly t = (
  ⊎_elim
      (λ e o. let h = ((types-exactly t).1 o).1 in let z : ◌≡◌ {A = ℕ} 0 1 = cc in omega arith)
      (λ x o. omega (arith, table-two t x.0 x.1, x.2)),
  λ h. go (shape_of t) refl h,
)
  where
    go : (r : Option Shape) → shape_of t ≡ r → (OneOf t type_octets → ⊥) → NoRow (shape_of t)
    go None e h = inl e
    go (Some s) e h = absurd (h ((types-exactly t).0 (s, e)))

-- the look-up table says what the rows of document 01 say, at each of the 256 octets; the proof of
-- `shape_of` computes that it is the code's
pub table-says : (k : ℕ) → k < 256 → unpacked_of (octet (table_of shape_of) k) ≡ shape_of k
table-says = table-rows shape_of (λ t s e. omega (arith, table-two t s e))
