-- Any two answers that a public function's contract allows are equal.
use Rattle.std.specs.Prelude.{Option}
use Prim.Native.Nat.{ℕ, ◌≤◌}
use mathlib.Core.Path.{◌≡◌, ap}
use mathlib.Core.List.{List}
use Rattle.octets.proofs.Answer.{one_answer}
use Rattle.words.specs.Into.{Entry, entry}
use Rattle.fields.specs.declared.Field.{Field}
use Rattle.fields.specs.Letters.{kind_of}
use Rattle.fields.specs.Placed.{no_field, entered, placed}

-- the field that a form does not have
pub nowhere-determined : (r s : Field) → r ≡ no_field → s ≡ no_field → r ≡ s
nowhere-determined r s = one_answer

-- what a word stands for, and the scratch
pub value-of-determined : (letter before : ℕ) (word scratch : List ℕ) (next : ℕ) {r s : Option ℕ} {left rest : List ℕ} → entry r left ≡ entered (kind_of letter) before word scratch next → entry s rest ≡ entered (kind_of letter) before word scratch next → (r ≡ s) × (left ≡ rest)
value-of-determined letter before word scratch next p q = let e = one_answer p q in (ap (λ (x : Entry). x.count) e, ap (λ (x : Entry). x.left) e)

-- the field of what it stands for
pub field-of-determined : (letter value next : ℕ) (r s : Field) → (r ≡ placed (kind_of letter) value next) × (r.count ≤ 4294967295) → (s ≡ placed (kind_of letter) value next) × (s.count ≤ 4294967295) → r ≡ s
field-of-determined letter value next r s p q = one_answer p.0 q.0
