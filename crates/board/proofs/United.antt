-- A block that is set twice, and two blocks of one kind on one row.
use Prim.Native.Nat.{ℕ, ◌+◌, ◌*◌, ◌/◌, ◌%◌}
use mathlib.Core.Path.{◌≡◌, refl, sym, ◌∙◌, ap}
use mathlib.Core.Bool.{Bool, true, false}
use native.Mathlib.Omega.{arith}
use lib.Dec.{eqb}
use Rattle.octets.specs.Choice.{when◌then◌else◌}
use Rattle.octets.specs.Answer.{◌then◌}
use Rattle.rows.specs.declared.Act.{Act}
use Rattle.rows.specs.declared.Act.TheVariants.{BlockGroup}
use Rattle.rows.specs.Rows.{blocked_row, changed_row, row_of}

-- a block that is set once more stays
pub blocked-again : (kind row : ℕ) → blocked_row kind (blocked_row kind row) ≡ blocked_row kind row
unfolding blocked_row
blocked-again kind row = go (eqb kind 0)
  where
    go : (t : Bool) → (when t then (when t then row / 4 * 4 + 2 + row % 2 else (row / 8 * 8 + 4 + row % 4) / 2 * 2) / 4 * 4 + 2 + (when t then row / 4 * 4 + 2 + row % 2 else (row / 8 * 8 + 4 + row % 4) / 2 * 2) % 2 else ((when t then row / 4 * 4 + 2 + row % 2 else (row / 8 * 8 + 4 + row % 4) / 2 * 2) / 8 * 8 + 4 + (when t then row / 4 * 4 + 2 + row % 2 else (row / 8 * 8 + 4 + row % 4) / 2 * 2) % 4) / 2 * 2)
        ≡ (when t then row / 4 * 4 + 2 + row % 2 else (row / 8 * 8 + 4 + row % 4) / 2 * 2)
    go true = omega arith
    go false = omega arith

-- two blocks of one kind, with these marks, are one with their marks united
pub united-row : (act : Act) → act ≡ BlockGroup → (kind : ℕ) (x y : Bool) (row : ℕ) → row_of act kind y (row_of act kind x row) ≡ row_of act kind (when x then true else y) row
unfolding changed_row
united-row act e kind x y row = ap (λ (z : Act). row_of z kind y (row_of z kind x row)) e ∙ go x y ∙ sym (ap (λ (z : Act). row_of z kind (when x then true else y) row) e)
  where
    go : (x y : Bool) → row_of BlockGroup kind y (row_of BlockGroup kind x row) ≡ row_of BlockGroup kind (when x then true else y) row
    go true true = blocked-again kind row
    go true false = refl
    go false true = refl
    go false false = refl
