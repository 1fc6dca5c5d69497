-- The number that was told, in the terms of what is given.
use Prim.Native.Nat.{ℕ, ◌+◌, ◌*◌, ◌%◌, ◌≤◌}
use mathlib.Core.Path.{◌≡◌, ◌∙◌, ap}
use mathlib.Core.List.{List}
use Rattle.octets.specs.Answer.{Answer}
use Rattle.octets.specs.Filled.{Done, leaving}
use Rattle.telling.specs.Telling.{packed_low, In16Bits}
use Rattle.telling.proofs.Telling.{refusal-whole, told-whole}
use Rattle.boundary.specs.Boundary.{Given, given, given_by}

-- a number that was come by otherwise
pub valued : {v w : ℕ} {l : List ℕ} {g : Given} → v ≡ w → given w l ≡ g → given v l ≡ g
valued {v} {w} {l} {g} e h = ap (λ (x : ℕ). given x l) e ∙ h

-- a refusal that is told, about an octet of 16 bits
pub refusal-given : {v : ℕ} (n at : ℕ) {l : List ℕ} {g : Given} → v ≡ 65536 * n + at % 65536 → at ≤ 65535 → given (65536 * n + at) l ≡ g → given v l ≡ g
refusal-given n at e small h = valued (e ∙ refusal-whole n at small) h

-- an answer that is told, and goes into 16 bits
pub written-given : {v : ℕ} {a : Answer ℕ} {l : List ℕ} (d : Done ℕ) → v ≡ packed_low a → leaving a l ≡ d → In16Bits d.answer → given v l ≡ given_by d
written-given {v} {a} {l} d e h fits =
    let value = e ∙ ap (λ (x : Done ℕ). packed_low x.answer) h ∙ told-whole d.answer fits in
    λ i. given (value i) (h i).left
