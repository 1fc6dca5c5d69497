-- Any two answers that a public function's contract allows are equal.
use Prim.Native.Nat.{ℕ}
use mathlib.Core.Path.{◌≡◌}
use mathlib.Core.List.{List}
use Rattle.std.specs.Prelude.{Option, Result}
use Rattle.octets.proofs.Answer.{one_answer}
use Rattle.octets.proofs.Told.{told-injective}
use Rattle.octets.specs.Told.{told}
use Rattle.octets.specs.declared.Refusal.{Refusal}
use Rattle.layout.specs.declared.Shape.{Shape}
use Rattle.isup.specs.Table.{shape_of}
use Rattle.isup.specs.Read.{read_of}
use Rattle.isup.specs.declared.Message.{Message}

pub shape-of-determined : (kind : ℕ) (r s : Option Shape) → r ≡ shape_of kind → s ≡ shape_of kind → r ≡ s
shape-of-determined kind r s = one_answer

pub read-determined : (m : List ℕ) (r s : Result Message Refusal) → told r ≡ read_of m → told s ≡ read_of m → r ≡ s
read-determined m r s p q = told-injective r s (one_answer p q)
