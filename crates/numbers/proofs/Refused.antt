-- A refusal in the terms of the number that C sees: its number is 1 at the least.
use Prim.Native.Nat.{ℕ, ◌+◌, ◌*◌}
use mathlib.Core.Path.{◌≡◌, ◌∙◌, ap}
use mathlib.Core.List.{List}
use native.Mathlib.Omega.{arith}
use Rattle.octets.specs.Answer.{◌then◌}
use Rattle.octets.specs.Filled.{room_for}
use Rattle.octets.proofs.Places.{refusal-so}
use Rattle.octets.proofs.Filled.{done-kept}
use Rattle.number.specs.Read.{read_number_of, number_in}
use Rattle.number.specs.Faults.{read_faults}
use Rattle.number.proofs.Judged.{read-number-judged}
use Rattle.dialling.specs.Write.{write_number_of, number_octets}
use Rattle.dialling.specs.Faults.{number_write_faults}
use Rattle.dialling.proofs.Judged.{write-number-judged}
use Rattle.boundary.specs.Boundary.{Given, given, given_by}
use Rattle.boundary.specs.Refuses.{Refuses}
use Rattle.boundary.proofs.Numbers.{AtLeastOne, FromOne}
use Rattle.boundary.proofs.Refused.{refusing, by-32-wide}
use Rattle.numbers.specs.Numbers.{packed_number, number_given}
use Rattle.numbers.proofs.Small.{number-read-small, number_small, number-read-placeless, number-write-placeless}

-- each fault's is
pub number-read-from-one : (contents buffer : List ℕ) → FromOne (read_faults contents buffer)
number-read-from-one contents buffer = (λ _ _. omega arith, (λ _ _. omega arith, (λ _ _. omega arith, (λ _ _. omega arith, (λ _ _. omega arith, tt)))))

pub number-write-from-one : (nature plan internal : ℕ) (signals buffer : List ℕ) → FromOne (number_write_faults nature plan internal signals buffer)
number-write-from-one nature plan internal signals buffer = (λ _ _. omega arith, (λ _ _. omega arith, (λ _ _. omega arith, (λ _ _. omega arith, (λ _ _. omega arith, (λ _ _. omega arith, tt))))))

-- of writing
pub number-write-refuses : (nature plan internal : ℕ) (signals buffer : List ℕ) (r : ℕ) (left : List ℕ) → given r left ≡ given_by (write_number_of nature plan internal signals buffer)
    → Refuses 65536 r (write_number_of nature plan internal signals buffer).answer buffer left
number-write-refuses nature plan internal signals buffer r left =
    by-32-wide (write_number_of nature plan internal signals buffer) r buffer left (λ n q. omega (arith, number_small nature plan internal signals buffer n q))
    (refusal-so AtLeastOne _ _ (write-number-judged nature plan internal signals buffer) (number-write-from-one nature plan internal signals buffer))
    (λ n at q. omega (arith, number-write-placeless nature plan internal signals buffer n at q))
    (λ n at q. done-kept buffer (number_octets nature plan internal signals then room_for buffer) q)

-- of reading a number, which answers by 64 bits
pub number-read-refuses : (contents buffer : List ℕ) (r : ℕ) (left : List ℕ) → given r left ≡ number_given (read_number_of contents buffer) → Refuses 4294967296 r (read_number_of contents buffer).answer buffer left
number-read-refuses contents buffer r left e =
    let v : r ≡ packed_number (read_number_of contents buffer).answer = ap (λ (g : Given). g.value) e in
    refusing 4294967296 (λ n h. omega arith) (λ n at h. (omega arith, omega arith)) (λ k h. omega arith) r (read_number_of contents buffer).answer buffer left
    (λ x q. let w : r ≡ 65536 * x.nature + 4096 * x.internal + 256 * x.plan + x.count = v ∙ ap packed_number q in let s = number-read-small contents buffer x q in omega (arith, s.0, s.1, s.2, s.3))
    (λ n at q. let z = number-read-placeless contents buffer n at q in (omega (arith, v ∙ ap packed_number q, z), refusal-so AtLeastOne _ _ (read-number-judged contents buffer) (number-read-from-one contents buffer) n at q, omega (arith, z)))
    (λ n at q. ap (λ (g : Given). g.left) e ∙ done-kept buffer (number_in contents then room_for buffer) q)
