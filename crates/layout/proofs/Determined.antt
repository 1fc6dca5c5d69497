-- Any two answers that a public function's contract allows are equal.
use Rattle.octets.proofs.Told.{told-injective}
use Rattle.std.specs.Prelude.{Option, Result}
use Rattle.octets.specs.Told.{told}
use Rattle.octets.specs.declared.Refusal.{Refusal}
use Rattle.layout.specs.declared.Shape.{Shape}
use Rattle.parts.specs.declared.Parts.{Parts}
use Prim.Native.Nat.{ℕ}
use mathlib.Core.Path.{◌≡◌}
use mathlib.Core.List.{List}
use Rattle.octets.proofs.Answer.{one_answer}
use Rattle.layout.specs.Container.{kind_at, parts_of}
use Rattle.layout.specs.Packed.{unpacked_of}

pub read-parts-determined : (m : List ℕ) (w most : ℕ) (row : Option Shape) (r s : Result Parts Refusal) → told r ≡ parts_of m w most row → told s ≡ parts_of m w most row → r ≡ s
read-parts-determined m w most row r s p q = told-injective r s (one_answer p q)

pub kind-at-determined : (m : List ℕ) (w r s : ℕ) → r ≡ kind_at m w → s ≡ kind_at m w → r ≡ s
kind-at-determined m w r s = one_answer

pub row-of-determined : (packed : ℕ) (r s : Option Shape) → r ≡ unpacked_of packed → s ≡ unpacked_of packed → r ≡ s
row-of-determined packed r s = one_answer
