-- A refusal's number is 1 at the least: so is each fault's of every list.
use Prim.Native.Nat.{ℕ}
use mathlib.Core.List.{List}
use native.Mathlib.Omega.{arith}
use Rattle.octets.specs.Octet.{octet}
use Rattle.octets.proofs.Places.{each_append}
use Rattle.isup.specs.Table.{shape_of}
use Rattle.isup.specs.Faults.{reader_faults}
use Rattle.isup.specs.Write.{order_of}
use Rattle.family.specs.Faults.{shape_faults}
use Rattle.isup.specs.WriteFaults.{write_faults}
use Rattle.finding.specs.Faults.{find_faults}
use Rattle.boundary.proofs.Numbers.{AtLeastOne, FromOne, message-from-one, shape-from-one}
use Rattle.llachurep.specs.Faults.{read_gives_faults, find_gives_faults}

-- the reader's
reader-from-one : (m : List ℕ) → FromOne (reader_faults m)
reader-from-one m = message-from-one m 2 268 (shape_of (octet m 2))

pub read-from-one : (m parts : List ℕ) → FromOne (read_gives_faults m parts)
read-from-one m parts = each_append AtLeastOne (reader_faults m) _ (reader-from-one m) (λ _ _. omega arith, tt)

pub find-from-one : (m defaults : List ℕ) (name : ℕ) (stretch : List ℕ) → FromOne (find_gives_faults m defaults name stretch)
find-from-one m defaults name stretch =
    each_append AtLeastOne (find_faults m defaults name) _ (each_append AtLeastOne (reader_faults m) _ (reader-from-one m) (λ _ _. omega arith, (λ _ _. omega arith, tt))) (λ _ _. omega arith, tt)

-- the writer's
pub write-from-one : (circuit kind : ℕ) (fixed first second run buffer : List ℕ) → FromOne (write_faults circuit kind fixed first second run buffer)
write-from-one circuit kind fixed first second run buffer =
    (λ _ _. omega arith, (λ _ _. omega arith, each_append AtLeastOne (shape_faults (shape_of kind) 268 (order_of circuit kind fixed first second run)) _ (shape-from-one (shape_of kind) 268 (order_of circuit kind fixed first second run)) (λ _ _. omega arith, tt)))
