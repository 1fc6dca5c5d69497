-- A refusal in the terms of the number that C sees, what a question's number
-- says, and that its contract determines it.
use Prim.Native.Nat.{ℕ, ◌+◌, ◌*◌, ◌/◌, ◌%◌}
use mathlib.Core.Path.{◌≡◌, refl, ◌∙◌, ap}
use mathlib.Core.List.{List}
use native.Mathlib.Omega.{arith}
use Rattle.octets.specs.Octet.{AllOctets}
use Rattle.octets.specs.Answer.{accepted, refused}
use Rattle.octets.proofs.Answer.{one_answer}
use Rattle.octets.proofs.Places.{refusal-so}
use Rattle.totals.specs.declared.Count.{Count}
use Rattle.totals.specs.Blocks.{rebuild_of}
use Rattle.totals.specs.Question.{busy_between_lem, busy_faults}
use Rattle.totals.proofs.Judged.{rebuild-keeps, busy-judges, busy-looked, busy-small}
use Rattle.boundary.specs.Boundary.{given, given_by}
use Rattle.boundary.specs.Refuses.{Refuses}
use Rattle.boundary.proofs.Places.{Bare}
use Rattle.boundary.proofs.Refused.{refusing, by-32-wide}
use Rattle.occupancy.specs.Occupancy.{packed_count}
use Rattle.occupancy.proofs.Small.{rebuild-small, rebuild-plain}

-- of a rebuild
pub rebuild-refuses : (states totals : List ℕ) (r : ℕ) (left : List ℕ) → given r left ≡ given_by (rebuild_of states totals) → Refuses 65536 r (rebuild_of states totals).answer totals left
rebuild-refuses states totals r left =
    by-32-wide (rebuild_of states totals) r totals left
    (λ n q. omega (arith, rebuild-small states totals n q))
    (λ n at q. (rebuild-plain states totals n at q).0)
    (λ n at q. (rebuild-plain states totals n at q).1)
    (rebuild-keeps states totals)

-- ---- a question, which is lent nothing that it could change
module _ (states totals : List ℕ) (first last : ℕ) (o : AllOctets totals) (r : ℕ) (e : r ≡ packed_count (busy_between_lem states totals first last)) where
  bare : (n at : ℕ) → busy_between_lem states totals first last ≡ refused n at → Bare n at
  bare = refusal-so Bare _ (busy_faults states totals first last) (busy-judges states totals first last) (λ at h. (omega arith, h.0), (λ at h. (omega arith, h.0), (λ at h. (omega arith, h.0), tt)))

  -- an accepted one says by its two halves how many numbers were looked at and
  -- how many circuits are busy
  pub busy-says : (x : Count) → busy_between_lem states totals first last ≡ accepted x → (r / 65536 ≡ x.looked) × (r % 65536 ≡ x.count)
  busy-says x q =
      let v : r ≡ 65536 * x.looked + x.count = e ∙ ap packed_count q in
      let s = busy-small states totals first last x q o in
      (omega (arith, v, s), omega (arith, v, s))

  pub busy-refuses : Refuses 4294967296 r (busy_between_lem states totals first last) totals totals
  busy-refuses =
      refusing 4294967296 (λ n h. omega arith) (λ n at h. (omega arith, omega arith)) (λ k h. omega arith) r (busy_between_lem states totals first last) totals totals
      (λ x q. let v : r ≡ 65536 * x.looked + x.count = e ∙ ap packed_count q in omega (arith, busy-small states totals first last x q o, busy-looked states totals first last x q))
      (λ n at q. let z = bare n at q in (omega (arith, e ∙ ap packed_count q, z.1), z.0, omega (arith, z.1)))
      (λ n at q. refl)

-- any two answers that its contract allows are equal
pub busy-number-determined : (states totals : List ℕ) (first last v w : ℕ) → v ≡ packed_count (busy_between_lem states totals first last) → w ≡ packed_count (busy_between_lem states totals first last) → v ≡ w
busy-number-determined states totals first last v w = one_answer
