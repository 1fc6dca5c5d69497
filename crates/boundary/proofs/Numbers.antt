-- A refusal's number is 1 at the least: so is each fault's of a message of any family.
use Prim.Native.Nat.{ℕ, ◌≤◌}
use mathlib.Core.List.{List}
use native.Mathlib.Omega.{arith}
use Rattle.std.specs.Prelude.{Option, Some, None}
use Rattle.octets.specs.Faults.{Fault}
use Rattle.octets.proofs.Places.{Each}
use Rattle.layout.specs.Faults.{row_faults, message_faults}
use Rattle.layout.specs.declared.Shape.{Shape}
use Rattle.family.specs.Faults.{shape_faults}
use Rattle.writing.specs.Write.{Order}

-- each fault of the list has a number from 1 on
abbrev pub AtLeastOne : ℕ → ℕ → Type 0
AtLeastOne n at = 1 ≤ n

abbrev pub FromOne : List Fault → Type 0
FromOne fs = Each AtLeastOne fs

-- the reader's
row-from-one : (m : List ℕ) (w : ℕ) (r : Option Shape) → FromOne (row_faults m w r)
row-from-one m w None = tt
row-from-one m w (Some s) =
    (λ _ _. omega arith, (λ _ _. omega arith, (λ _ _. omega arith, (λ _ _. omega arith, (λ _ _. omega arith, (λ _ _. omega arith, (λ _ _. omega arith, (λ _ _. omega arith, (λ _ _. omega arith, (λ _ _. omega arith, (λ _ _. omega arith, (λ _ _. omega arith, (λ _ _. omega arith, (λ _ _. omega arith, (λ _ _. omega arith, tt)))))))))))))))

pub message-from-one : (m : List ℕ) (w most : ℕ) (r : Option Shape) → FromOne (message_faults m w most r)
message-from-one m w most r = (λ _ _. omega arith, (λ _ _. omega arith, (λ _ _. omega arith, row-from-one m w r)))

-- the writer's
pub shape-from-one : (r : Option Shape) (most : ℕ) (o : Order) → FromOne (shape_faults r most o)
shape-from-one (Some s) most o = (λ _ _. omega arith, (λ _ _. omega arith, (λ _ _. omega arith, (λ _ _. omega arith, tt))))
shape-from-one None most o = tt
