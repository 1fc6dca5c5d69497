-- Any two answers that the public function's contract allows are equal.
use mathlib.Core.Path.{◌≡◌}
use Prim.Native.Nat.{ℕ}
use mathlib.Core.List.{List}
use Rattle.octets.proofs.Answer.{one_answer}
use Rattle.forms.specs.declared.Row.{Row}
use Rattle.forms.specs.Table.{forms}
use Rattle.forms.specs.Inside.{key_of, row_in}

-- the row of a word
pub form-of-determined : (word : List ℕ) (r s : Row) → r ≡ row_in forms 0 (key_of word) → s ≡ row_in forms 0 (key_of word) → r ≡ s
form-of-determined word r s = one_answer
