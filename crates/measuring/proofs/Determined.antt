-- Any two answers that a public function's contract allows are equal.
use Rattle.octets.proofs.Told.{told-injective}
use Rattle.std.specs.Prelude.{Result}
use Rattle.octets.specs.Told.{told}
use Rattle.octets.specs.declared.Refusal.{Refusal}
use Rattle.measuring.specs.declared.Frame.{Frame}
use Prim.Native.Nat.{ℕ}
use mathlib.Core.Path.{◌≡◌}
use mathlib.Core.Bool.{Bool}
use mathlib.Core.List.{List}
use Rattle.octets.proofs.Answer.{one_answer}
use Rattle.layout.specs.declared.Shape.{Shape}
use Rattle.measuring.specs.declared.Lengths.{Lengths}
use Rattle.measuring.specs.Measure.{unfit_of, measure_of}

-- of measuring
pub measure-determined : (s : Shape) (most : ℕ) (l : Lengths) (r t : Result Frame Refusal) → told r ≡ measure_of s most l → told t ≡ measure_of s most l → r ≡ t
measure-determined s most l r t p q = told-injective r t (one_answer p q)

-- of what does not fit a shape
pub unfit-determined : (s : Shape) (fixed a b c run : List ℕ) (r t : Bool) → r ≡ unfit_of s fixed a b c run → t ≡ unfit_of s fixed a b c run → r ≡ t
unfit-determined s fixed a b c run r t = one_answer
