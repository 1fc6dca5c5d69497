-- A refusal's number is 1 at the least: so is each fault's of the calls.
use Prim.Native.Nat.{ℕ}
use mathlib.Core.List.{List}
use native.Mathlib.Omega.{arith}
use Rattle.octets.specs.Octet.{octet}
use Rattle.octets.proofs.Places.{each_append}
use Rattle.isup.specs.Table.{shape_of}
use Rattle.isup.specs.Faults.{reader_faults}
use Rattle.asks.specs.Faults.{ask_faults}
use Rattle.rights.specs.Tables.{Tables}
use Rattle.hub.specs.Faults.{act_faults}
use Rattle.hub.specs.Desk.{desk_faults}
use Rattle.boundary.proofs.Numbers.{AtLeastOne, FromOne, message-from-one}

-- the hub's
pub act-from-one : (T : Tables) (sender : ℕ) (m : List ℕ) (room : ℕ) → FromOne (act_faults T sender m room)
act-from-one T sender m room =
    (λ _ _. omega arith, each_append AtLeastOne (ask_faults m) _ (each_append AtLeastOne (reader_faults m) _ (message-from-one m 2 268 (shape_of (octet m 2))) (λ _ _. omega arith, (λ _ _. omega arith, (λ _ _. omega arith, tt)))) (λ _ _. omega arith, (λ _ _. omega arith, (λ _ _. omega arith, (λ _ _. omega arith, (λ _ _. omega arith, tt))))))

-- the desk call's
pub desk-from-one : (states : List ℕ) (circuit room : ℕ) → FromOne (desk_faults states circuit room)
desk-from-one states circuit room = (λ _ _. omega arith, (λ _ _. omega arith, (λ _ _. omega arith, (λ _ _. omega arith, tt))))
