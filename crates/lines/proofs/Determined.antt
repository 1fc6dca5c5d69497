-- Any two outcomes that a public function's contract allows are equal.
use Rattle.octets.specs.Told.{told_by}
use Rattle.std.specs.Prelude.{Result}
use Prim.Native.Nat.{ℕ}
use mathlib.Core.Path.{◌≡◌}
use mathlib.Core.List.{List, ◌++◌}
use lib.ListN.{length, take}
use Rattle.octets.specs.Octet.{octets}
use Rattle.octets.proofs.Answer.{one_answer}
use Rattle.printing.specs.Sheet.{Sheet, sheet, pour}
use Rattle.printing.specs.Shown.{decimal_of, hex_of}
use Rattle.printing.proofs.Pours.{sheet-one}
use Rattle.lines.specs.Lines.{refusal, fault_line, written_line, again_line, blank}

-- two outcomes that are one sheet: the buffer and the next place
pub sheet-determined : {s : Sheet} {left rest : List ℕ} {r q : ℕ} → sheet left r ≡ s → sheet rest q ≡ s → (left ≡ rest) × (r ≡ q)
sheet-determined p e = sheet-one (one_answer p e)

-- a blank buffer
pub blank-space-determined : (r s : List ℕ) → (r ≡ blank) × (length r ≡ 1024) → (s ≡ blank) × (length s ≡ 1024) → r ≡ s
blank-space-determined r s p q = one_answer p.0 q.0

-- the octets of a front
pub front-determined : (buffer : List ℕ) (count : ℕ) {r s : List ℕ} → r ≡ take count buffer → s ≡ take count buffer → r ≡ s
front-determined buffer count = one_answer

-- the octets of a stretch
pub stretch-determined : (all : List ℕ) (from count : ℕ) {r s : List ℕ} → r ≡ octets all from count → s ≡ octets all from count → r ≡ s
stretch-determined all from count = one_answer

-- a word with a number
pub put-count-determined : (word : List ℕ) (number : ℕ) (out : List ℕ) (at : ℕ) {left rest : List ℕ} {r q : ℕ} → sheet left r ≡ pour (sheet out at) (word ++ decimal_of number) → sheet rest q ≡ pour (sheet out at) (word ++ decimal_of number) → (left ≡ rest) × (r ≡ q)
put-count-determined word number out at = sheet-determined

-- a word with octets
pub put-shown-determined : (word xs out : List ℕ) (at : ℕ) {left rest : List ℕ} {r q : ℕ} → sheet left r ≡ pour (sheet out at) (word ++ hex_of xs) → sheet rest q ≡ pour (sheet out at) (word ++ hex_of xs) → (left ≡ rest) × (r ≡ q)
put-shown-determined word xs out at = sheet-determined

-- a refusal
pub say-refusal-determined : (number : ℕ) (out : List ℕ) {left rest : List ℕ} {r q : ℕ} → sheet left r ≡ pour (sheet out 0) (refusal number) → sheet rest q ≡ pour (sheet out 0) (refusal number) → (left ≡ rest) × (r ≡ q)
say-refusal-determined number out = sheet-determined

-- a reader's refusal
pub say-fault-determined : (number place : ℕ) (out : List ℕ) {left rest : List ℕ} {r q : ℕ} → sheet left r ≡ pour (sheet out 0) (fault_line number place) → sheet rest q ≡ pour (sheet out 0) (fault_line number place) → (left ≡ rest) × (r ≡ q)
say-fault-determined number place out = sheet-determined

-- what was written
pub say-written-determined : {E : Type 0} (number place : E → ℕ) (written : Result ℕ E) (buffer out : List ℕ) {left rest : List ℕ} {r q : ℕ} → sheet left r ≡ pour (sheet out 0) (written_line (told_by number place written) buffer) → sheet rest q ≡ pour (sheet out 0) (written_line (told_by number place written) buffer) → (left ≡ rest) × (r ≡ q)
say-written-determined number place written buffer out = sheet-determined

-- what was written again
pub say-again-determined : {E : Type 0} (number place : E → ℕ) (written : Result ℕ E) (buffer out : List ℕ) {left rest : List ℕ} {r q : ℕ} → sheet left r ≡ pour (sheet out 0) (again_line (told_by number place written) buffer) → sheet rest q ≡ pour (sheet out 0) (again_line (told_by number place written) buffer) → (left ≡ rest) × (r ≡ q)
say-again-determined number place written buffer out = sheet-determined
