-- The number of a refusal is that of the first fault; accepted is what has none.
use Prim.Native.Nat.{ℕ, ◌+◌, ◌/◌}
use mathlib.Core.List.{List, [], ◌∷◌}
use native.Mathlib.Omega.{arith}
use borrow.Author.Tests.{ltb-true, ltb-false}
use lib.Dec.{ltb}
use lib.ListN.{length}
use Rattle.octets.specs.Answer.{◌then◌}
use Rattle.octets.specs.Faults.{Judges, fault}
use Rattle.octets.proofs.Faults.{judges-if, judges-then, judges-done}
use Rattle.octets.specs.Filled.{room_for}
use Rattle.dialling.specs.Write.{any_above15, number_octets, write_number_of}
use Rattle.number.specs.Faults.{TooShort}
use Rattle.dialling.specs.Faults.{values_faults, number_write_faults}
use Rattle.dialling.proofs.Laws.{found-above, none_above}
use Rattle.octets.proofs.Filled.{judges-filled}
use Rattle.number.proofs.Judged.{room-judged}
use Rattle.dialling.proofs.WriteExactly.{octets-found, length_found}

-- the faults of values and signals, each as its test finds it
values-judged : (nature plan internal : ℕ) (signals : List ℕ) → Judges (number_octets nature plan internal signals) (values_faults nature plan internal signals)
values-judged nature plan internal signals =
    judges-if (ltb 127 nature) (ltb-true 127 nature) (λ t h. omega (arith, ltb-false 127 nature t)) (λ t.
    judges-if (ltb 7 plan) (ltb-true 7 plan) (λ t h. omega (arith, ltb-false 7 plan t)) (λ t.
    judges-if (ltb 1 internal) (ltb-true 1 internal) (λ t h. omega (arith, ltb-false 1 internal t)) (λ t.
    judges-if (ltb 30 (length signals)) (ltb-true 30 (length signals)) (λ t h. omega (arith, ltb-false 30 (length signals) t)) (λ t.
    judges-if (any_above15 signals) (found-above signals) (λ t h. let k = none_above signals t h.0 in omega arith) (λ t.
    judges-done _)))))

-- writing refuses with the first fault, and accepts where there is none
pub write-number-judged : (nature plan internal : ℕ) (signals buffer : List ℕ) → Judges (write_number_of nature plan internal signals buffer).answer (number_write_faults nature plan internal signals buffer)
write-number-judged nature plan internal signals buffer =
    judges-filled buffer (number_octets nature plan internal signals then room_for buffer) (number_write_faults nature plan internal signals buffer)
    (judges-then (number_octets nature plan internal signals) (room_for buffer) (values_faults nature plan internal signals) (fault 13 0 (TooShort buffer (2 + (length signals + 1) / 2)) ∷ [])
    (values-judged nature plan internal signals)
    (λ x e. room-judged buffer x (2 + (length signals + 1) / 2) (length_found (octets-found nature plan internal signals x.0 x.1 e))))
