-- What the contract of writing says is all: any two outcomes that it allows are equal, and a
-- refusal keeps the lent buffer.
use Rattle.octets.specs.Answer.{refused}
use Rattle.std.specs.Prelude.{Result}
use Rattle.octets.specs.Told.{told}
use Rattle.octets.specs.declared.Refusal.{Refusal}
use Prim.Native.Nat.{ℕ}
use mathlib.Core.Path.{◌≡◌}
use mathlib.Core.List.{List}
use Rattle.octets.specs.Answer.{◌then◌}
use Rattle.octets.specs.Filled.{room_for, leaving}
use Rattle.octets.proofs.Told.{writing-determined, writing-keeps}
use Rattle.dialling.specs.Write.{number_octets, write_number_of}

-- any two outcomes of writing are equal
pub write-number-determined : (nature plan internal : ℕ) (signals buffer : List ℕ) {r s : Result ℕ Refusal} {left rest : List ℕ} →
    leaving (told r) left ≡ write_number_of nature plan internal signals buffer → leaving (told s) rest ≡ write_number_of nature plan internal signals buffer → (r ≡ s) × (left ≡ rest)
write-number-determined nature plan internal signals buffer {r = r} {s = s} p q =
    writing-determined (write_number_of nature plan internal signals buffer) r s _ _ p q

-- a refusal to write keeps the buffer
pub write-number-keeps : (nature plan internal : ℕ) (signals buffer : List ℕ) {n at : ℕ} {left : List ℕ} → leaving (refused n at) left ≡ write_number_of nature plan internal signals buffer → left ≡ buffer
write-number-keeps nature plan internal signals buffer e =
    writing-keeps buffer (number_octets nature plan internal signals then room_for buffer) _ _ _ e
