-- Everything that goes into an answer is small enough for it, and no refusal is about an octet.
use Prim.Native.Nat.{ℕ, ◌≤◌, ◌<◌}
use mathlib.Core.Path.{◌≡◌, ap}
use mathlib.Core.List.{List}
use native.Mathlib.Omega.{arith}
use native.Mathlib.Nat.{mod-lt}
use borrow.Author.Tests.{ltb-false}
use lib.Dec.{ltb}
use lib.ListN.{length}
use Rattle.octets.specs.Answer.{accepted, refused}
use Rattle.octets.proofs.Answer.{accepted-same, past-test}
use Rattle.octets.proofs.Places.{refusal-so}
use Rattle.number.specs.declared.Number.{Number}
use Rattle.number.specs.Contents.{half_count, odd_bit, filler_in, count_in, nature_in, internal_in, plan_in}
use Rattle.number.specs.Read.{read_number_of, number_in}
use Rattle.number.specs.Faults.{read_faults}
use Rattle.number.proofs.Judged.{read-number-judged}
use Rattle.telling.specs.Telling.{In16Bits}
use Rattle.dialling.specs.Write.{any_above15, write_number_of, number_octets}
use Rattle.dialling.specs.Faults.{number_write_faults}
use Rattle.dialling.proofs.Laws.{length-packed}
use Rattle.dialling.proofs.Judged.{write-number-judged}
use Rattle.boundary.proofs.Small.{roomy}
use Rattle.boundary.proofs.Places.{Placeless}

-- a number's signals, and its octets
pub count_small : (contents buffer : List ℕ) (x : Number) → (read_number_of contents buffer).answer ≡ accepted x → x.count ≤ 30
count_small contents buffer x e =
    let r = roomy buffer (number_in contents) e in
    let a = past-test 14 0 (ltb (length contents) 2) r.1 in
    let b = past-test 14 0 (ltb (half_count contents) (odd_bit contents)) a.1 in
    let c = past-test 14 0 (ltb 0 (filler_in contents)) b.1 in
    let d = past-test 14 0 (ltb 30 (count_in contents)) c.1 in
    let q = ap (λ (y : Number × List ℕ). y.0.count) (accepted-same d.1) in
    omega (arith, ltb-false 30 (count_in contents) d.0)

-- what a number that was read says besides
pub number-read-small : (contents buffer : List ℕ) (x : Number) → (read_number_of contents buffer).answer ≡ accepted x → (x.nature ≤ 127) × (x.internal ≤ 1) × (x.plan ≤ 7) × (x.count ≤ 30)
number-read-small contents buffer x e =
    let r = roomy buffer (number_in contents) e in
    let a = past-test 14 0 (ltb (length contents) 2) r.1 in
    let b = past-test 14 0 (ltb (half_count contents) (odd_bit contents)) a.1 in
    let c = past-test 14 0 (ltb 0 (filler_in contents)) b.1 in
    let d = past-test 14 0 (ltb 30 (count_in contents)) c.1 in
    let q = accepted-same d.1 in
    let n : nature_in contents < 128 = mod-lt _ (omega arith) in
    let i : internal_in contents < 2 = mod-lt _ (omega arith) in
    let p : plan_in contents < 8 = mod-lt _ (omega arith) in (
      omega (arith, ap (λ (y : Number × List ℕ). y.0.nature) q),
      omega (arith, ap (λ (y : Number × List ℕ). y.0.internal) q),
      omega (arith, ap (λ (y : Number × List ℕ). y.0.plan) q),
      count_small contents buffer x e,
    )

pub number_small : (nature plan internal : ℕ) (signals buffer : List ℕ) (n : ℕ) → (write_number_of nature plan internal signals buffer).answer ≡ accepted n → n ≤ 17
number_small nature plan internal signals buffer n e =
    let r = roomy buffer (number_octets nature plan internal signals) e in
    let a = past-test 14 0 (ltb 127 nature) r.1 in
    let b = past-test 14 0 (ltb 7 plan) a.1 in
    let c = past-test 14 0 (ltb 1 internal) b.1 in
    let d = past-test 14 0 (ltb 30 (length signals)) c.1 in
    let f = past-test 14 0 (any_above15 signals) d.1 in
    let q = ap (λ (y : ℕ × List ℕ). y.0) (accepted-same f.1) in
    omega (arith, ltb-false 30 (length signals) d.0, length-packed signals)

-- no refusal is about an octet
pub number-read-placeless : (contents buffer : List ℕ) (n at : ℕ) → (read_number_of contents buffer).answer ≡ refused n at → at ≡ 0
number-read-placeless contents buffer = refusal-so Placeless _ (read_faults contents buffer) (read-number-judged contents buffer) (λ at h. h.0, (λ at h. h.0, (λ at h. h.0, (λ at h. h.0, (λ at h. h.0, tt)))))

pub number-write-placeless : (nature plan internal : ℕ) (signals buffer : List ℕ) (n at : ℕ) → (write_number_of nature plan internal signals buffer).answer ≡ refused n at → at ≡ 0
number-write-placeless nature plan internal signals buffer =
    refusal-so Placeless _ (number_write_faults nature plan internal signals buffer) (write-number-judged nature plan internal signals buffer)
    (λ at h. h.0, (λ at h. h.0, (λ at h. h.0, (λ at h. h.0, (λ at h. h.0, (λ at h. h.0, tt))))))

pub number-write-place : (nature plan internal : ℕ) (signals buffer : List ℕ) (n at : ℕ) → (write_number_of nature plan internal signals buffer).answer ≡ refused n at → at ≤ 268
number-write-place nature plan internal signals buffer n at e = omega (arith, number-write-placeless nature plan internal signals buffer n at e)

pub number-write-fits : (nature plan internal : ℕ) (signals buffer : List ℕ) → In16Bits (write_number_of nature plan internal signals buffer).answer
number-write-fits nature plan internal signals buffer = (λ n q. omega (arith, number_small nature plan internal signals buffer n q), λ n at q. omega (arith, number-write-place nature plan internal signals buffer n at q))
