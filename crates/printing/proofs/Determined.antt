-- Any two outcomes that a public function's contract allows are equal: the
-- buffer afterwards, and the answer.
use Prim.Native.Nat.{ℕ}
use mathlib.Core.Path.{◌≡◌}
use mathlib.Core.List.{List}
use Rattle.octets.proofs.Answer.{one_answer}
use Rattle.printing.specs.Sheet.{Sheet, sheet, put, pour}
use Rattle.printing.specs.Shown.{decimal_of, hex_of}
use Rattle.printing.proofs.Pours.{sheet-one}

-- two outcomes that are one sheet are equal
one-sheet : {s : Sheet} {left rest : List ℕ} {r q : ℕ} → sheet left r ≡ s → sheet rest q ≡ s → (left ≡ rest) × (r ≡ q)
one-sheet p e = sheet-one (one_answer p e)

-- of putting an octet
pub put-octet-determined : (octet : ℕ) (out : List ℕ) (at : ℕ) {left rest : List ℕ} {r q : ℕ} → sheet left r ≡ put (sheet out at) octet → sheet rest q ≡ put (sheet out at) octet → (left ≡ rest) × (r ≡ q)
put-octet-determined octet out at = one-sheet

-- of putting a text
pub put-text-determined : (text out : List ℕ) (at : ℕ) {left rest : List ℕ} {r q : ℕ} → sheet left r ≡ pour (sheet out at) text → sheet rest q ≡ pour (sheet out at) text → (left ≡ rest) × (r ≡ q)
put-text-determined text out at = one-sheet

-- of putting a number
pub put-number-determined : (number : ℕ) (out : List ℕ) (at : ℕ) {left rest : List ℕ} {r q : ℕ} → sheet left r ≡ pour (sheet out at) (decimal_of number) → sheet rest q ≡ pour (sheet out at) (decimal_of number) → (left ≡ rest) × (r ≡ q)
put-number-determined number out at = one-sheet

-- of putting octets
pub put-octets-determined : (octets out : List ℕ) (at : ℕ) {left rest : List ℕ} {r q : ℕ} → sheet left r ≡ pour (sheet out at) (hex_of octets) → sheet rest q ≡ pour (sheet out at) (hex_of octets) → (left ≡ rest) × (r ≡ q)
put-octets-determined octets out at = one-sheet
