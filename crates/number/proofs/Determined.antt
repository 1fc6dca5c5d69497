-- What the contract of reading says is all: any two outcomes that it allows are equal, and a
-- refusal keeps the lent buffer.
use Rattle.octets.proofs.Told.{told-injective}
use Rattle.std.specs.Prelude.{Result}
use Rattle.octets.specs.Told.{told}
use Rattle.octets.specs.declared.Refusal.{Refusal}
use Prim.Native.Nat.{ℕ}
use mathlib.Core.Path.{◌≡◌, sym, ◌∙◌, ap}
use mathlib.Core.List.{List}
use Rattle.octets.specs.Answer.{refused, ◌then◌}
use Rattle.octets.specs.Filled.{Done, room_for, leaving}
use Rattle.octets.proofs.Answer.{one_answer}
use Rattle.octets.proofs.Filled.{done-kept}
use Rattle.number.specs.declared.Number.{Number}
use Rattle.number.specs.Read.{number_in, read_number_of}

-- any two outcomes of reading are equal
pub read-number-determined : (contents buffer : List ℕ) {r s : Result Number Refusal} {left rest : List ℕ} →
    leaving (told r) left ≡ read_number_of contents buffer → leaving (told s) rest ≡ read_number_of contents buffer → (r ≡ s) × (left ≡ rest)
read-number-determined contents buffer {r = r} {s = s} p q =
    let e = one_answer p q in
    (told-injective r s (ap (λ (d : Done Number). d.answer) e), ap (λ (d : Done Number). d.left) e)

-- a refusal to read keeps the buffer
pub read-number-keeps : (contents buffer : List ℕ) {n at : ℕ} {left : List ℕ} → leaving (refused n at) left ≡ read_number_of contents buffer → left ≡ buffer
read-number-keeps contents buffer e =
    ap (λ (d : Done Number). d.left) e ∙ done-kept buffer (number_in contents then room_for buffer) (sym (ap (λ (d : Done Number). d.answer) e))
