-- Rows packed and unpacked, and the look-up table of a family's rows.
use Rattle.std.specs.Prelude.{Option, Some, None}
use Prim.Native.Nat.{ℕ, ◌/◌, ◌%◌, ◌≤◌, ◌<◌}
use mathlib.Core.Path.{◌≡◌, refl, ◌∙◌, ap}
use mathlib.Core.Bool.{Bool, true, false}
use mathlib.Core.List.{List}
use native.Mathlib.Omega.{arith}
use lib.Dec.{eqb}
use borrow.Author.Tests.{ne_eqb}
use Rattle.octets.specs.Octet.{octet}
use Rattle.octets.specs.Tabulate.{tabulate}
use Rattle.octets.proofs.Tabulate.{tabulated}
use Rattle.layout.specs.declared.Shape.{Shape}
use Rattle.layout.specs.Container.{bit}
use Rattle.layout.specs.Packed.{packed_of, unpacked_of}

pub bit-small : (o : Bool) → bit o ≤ 1
bit-small true = omega arith
bit-small false = omega arith

odd-row : (n : ℕ) → n % 2 ≡ 1 → eqb (n % 2) 0 ≡ false
odd-row n e = ne_eqb (n % 2) 0 (λ z. omega arith)

bit-back : (n : ℕ) (o : Bool) → n ≡ bit o → eqb n 1 ≡ o
bit-back n true e = rw e
bit-back n false e = rw e

has_same : {f g v w : ℕ} {o p : Bool} → f ≡ g → v ≡ w → o ≡ p → ◌≡◌ {A = Option Shape} (Some (record { fixed = f; vars = v; opt = o })) (Some (record { fixed = g; vars = w; opt = p }))
has_same x y z i = Some (record { fixed = x i; vars = y i; opt = z i })

-- a row of at most 15 fixed octets and three variable parameters goes into one octet
pub packed-octet : (s : Shape) → s.fixed ≤ 15 → s.vars ≤ 3 → packed_of (Some s) < 256
packed-octet s f v = omega (arith, bit-small s.opt)

-- and unpacking what was packed gives the row back
pub packed-back : (s : Shape) → s.vars ≤ 3 → unpacked_of (packed_of (Some s)) ≡ Some s
unfolding unpacked_of
packed-back s v =
    let l = bit-small s.opt in
    rw (odd-row (packed_of (Some s)) (omega arith)) (has_same (omega arith) (omega arith) (bit-back (packed_of (Some s) / 2 % 2) s.opt (omega arith)))

row_back : (r : Option Shape) → ((s : Shape) → r ≡ Some s → s.vars ≤ 3) → unpacked_of (packed_of r) ≡ r
unfolding unpacked_of
row_back None h = refl
row_back (Some s) h = packed-back s (h s refl)

-- the look-up table of a family: the row of each of the 256 octets, packed
abbrev pub table_of : (ℕ → (Option Shape)) → List ℕ
table_of f = tabulate (λ n. packed_of (f n)) 0 256

-- it says the family's row at each octet
pub table-rows : (f : ℕ → (Option Shape)) → ((t : ℕ) (s : Shape) → f t ≡ Some s → s.vars ≤ 3) → (k : ℕ) → k < 256 → unpacked_of (octet (table_of f) k) ≡ f k
table-rows f few k h = ap unpacked_of (tabulated (λ n. packed_of (f n)) 256 k h) ∙ row_back (f k) (few k)
