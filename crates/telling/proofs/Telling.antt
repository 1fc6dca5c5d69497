-- An answer that goes into 16 bits is told whole, and what the three functions answer is determined.
use Rattle.std.specs.Prelude.{Result}
use Rattle.octets.specs.Told.{told_by}
use Prim.Native.Nat.{ℕ, ◌+◌, ◌*◌, ◌/◌, ◌%◌, ◌≤◌}
use mathlib.Core.Path.{◌≡◌, refl}
use native.Mathlib.Omega.{arith}
use Rattle.octets.specs.Answer.{Answer, accepted, refused}
use Rattle.octets.proofs.Answer.{one_answer}
use Rattle.telling.specs.Telling.{packed, packed_low, In16Bits}

-- a refusal about an octet of 16 bits tells its number and that octet
pub refusal-whole : (n at : ℕ) → at ≤ 65535 → 65536 * n + at % 65536 ≡ 65536 * n + at
refusal-whole n at h = omega arith

-- what goes into 16 bits is told whole
pub told-whole : (a : Answer ℕ) → In16Bits a → packed_low a ≡ packed a
told-whole (accepted n) h = omega (arith, h.0 n refl)
told-whole (refused n at) h = omega (arith, h.1 n at refl)

-- so a caller tells a refusal's number and its octet by the number's two halves, and what is
-- accepted by a higher half of 0
pub refused-halves : (n at : ℕ) → at ≤ 65535 → (packed (refused n at) / 65536 ≡ n) × (packed (refused n at) % 65536 ≡ at)
refused-halves n at h = (omega arith, omega arith)

pub accepted-halves : (v : ℕ) → v ≤ 65535 → (packed (accepted v) / 65536 ≡ 0) × (packed (accepted v) % 65536 ≡ v)
accepted-halves v h = (omega arith, omega arith)

-- any two answers that a contract allows are equal
pub refusal-told-determined : (number place v w : ℕ) → v ≡ 65536 * number + place % 65536 → w ≡ 65536 * number + place % 65536 → v ≡ w
refusal-told-determined number place v w = one_answer

pub written-told-determined : {E : Type 0} (number place : E → ℕ) (answer : Result ℕ E) (v w : ℕ) → v ≡ packed_low (told_by number place answer) → w ≡ packed_low (told_by number place answer) → v ≡ w
written-told-determined number place answer v w = one_answer
