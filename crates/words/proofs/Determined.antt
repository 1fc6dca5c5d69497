-- Any two answers that a public function's contract allows are equal.
use Rattle.std.specs.Prelude.{Option}
use Prim.Native.Nat.{ℕ, ◌≤◌}
use mathlib.Core.Path.{◌≡◌, ap}
use mathlib.Core.List.{List}
use Rattle.octets.proofs.Answer.{one_answer}
use Rattle.words.specs.Digits.{value_of}
use Rattle.words.specs.Words.{word_end_lem, number_of, octet_of_lem}
use Rattle.words.specs.Into.{Entry, entry, octets_into_lem}

-- what a digit stands for
pub value-determined : (digit r s : ℕ) → (r ≡ value_of digit) × (r ≤ 16) → (s ≡ value_of digit) × (s ≤ 16) → r ≡ s
value-determined digit r s p q = one_answer p.0 q.0

-- where a word ends
pub word-end-determined : (line : List ℕ) (from r s : ℕ) → r ≡ word_end_lem line from → s ≡ word_end_lem line from → r ≡ s
word-end-determined line from r s = one_answer

-- the number that a word stands for
pub number-of-determined : (word : List ℕ) (most : ℕ) (r s : Option ℕ) → r ≡ number_of most word → s ≡ number_of most word → r ≡ s
number-of-determined word most r s = one_answer

-- the octet that a word stands for
pub octet-of-determined : (word : List ℕ) (r s : Option ℕ) → r ≡ octet_of_lem word → s ≡ octet_of_lem word → r ≡ s
octet-of-determined word r s = one_answer

-- the octets of a word in a buffer: how many, and the buffer
pub octets-into-determined : (most : ℕ) (word buffer : List ℕ) (at : ℕ) {r s : Option ℕ} {left rest : List ℕ} → entry r left ≡ octets_into_lem most word buffer at → entry s rest ≡ octets_into_lem most word buffer at → (r ≡ s) × (left ≡ rest)
octets-into-determined most word buffer at p q = let e = one_answer p q in (ap (λ (x : Entry). x.count) e, ap (λ (x : Entry). x.left) e)
