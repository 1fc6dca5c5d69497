-- The number of a refusal is that of the first fault; accepted is what has none.
use Prim.Native.Nat.{ℕ}
use mathlib.Core.Path.{◌≡◌, sym, ◌∙◌, ap}
use mathlib.Core.List.{List, [], ◌∷◌}
use native.Mathlib.Omega.{arith}
use borrow.Author.Tests.{ltb-true, ltb-false}
use lib.Dec.{ltb}
use lib.ListN.{length}
use Rattle.octets.specs.Answer.{◌then◌}
use Rattle.octets.specs.Faults.{Judges, fault}
use Rattle.octets.proofs.Faults.{judges-if, judges-then, judges-done}
use Rattle.number.specs.Contents.{odd_bit, half_count, count_in, filler_in}
use Rattle.octets.specs.Filled.{room_for}
use Rattle.number.specs.Read.{number_in, read_number_of}
use Rattle.number.specs.Faults.{TooShort, contents_faults, read_faults}
use Rattle.number.proofs.Laws.{length-signals}
use Rattle.octets.proofs.Filled.{judges-filled}
use Rattle.number.proofs.ReadExactly.{filler-odd, filler-some, number-found}

-- too short a buffer for n octets is the one fault of the room
pub room-judged : {A : Type 0} (buffer : List ℕ) (x : A × List ℕ) (n : ℕ) → length x.1 ≡ n → Judges (room_for buffer x) (fault 13 0 (TooShort buffer n) ∷ [])
room-judged buffer x n e =
    judges-if (ltb (length buffer) (length x.1))
    (λ t. omega (arith, ltb-true (length buffer) (length x.1) t))
    (λ t h. omega (arith, ltb-false (length buffer) (length x.1) t))
    (λ t. judges-done x)

-- the faults of contents, each as its test finds it
contents-judged : (contents : List ℕ) → Judges (number_in contents) (contents_faults contents)
contents-judged contents =
    judges-if (ltb (length contents) 2) (ltb-true (length contents) 2) (λ t h. omega (arith, ltb-false (length contents) 2 t)) (λ t.
    let two = ltb-false (length contents) 2 t in
    judges-if (ltb (half_count contents) (odd_bit contents))
    (λ u. let h = ltb-true (half_count contents) (odd_bit contents) u in (omega arith, omega arith))
    (λ u h. let k = ltb-false (half_count contents) (odd_bit contents) u in omega arith)
    (λ u.
    judges-if (ltb 0 (filler_in contents))
    (λ v. filler-some contents (ltb-true 0 (filler_in contents) v))
    (λ v h. let k = ltb-false 0 (filler_in contents) v in let q = filler-odd contents h.0 in h.1 (omega arith))
    (λ v.
    judges-if (ltb 30 (count_in contents)) (ltb-true 30 (count_in contents)) (λ w h. omega (arith, ltb-false 30 (count_in contents) w)) (λ w. judges-done _))))

-- reading refuses with the first fault, and accepts where there is none
pub read-number-judged : (contents buffer : List ℕ) → Judges (read_number_of contents buffer).answer (read_faults contents buffer)
read-number-judged contents buffer =
    judges-filled buffer (number_in contents then room_for buffer) (read_faults contents buffer)
    (judges-then (number_in contents) (room_for buffer) (contents_faults contents) (fault 13 0 (TooShort buffer (count_in contents)) ∷ [])
    (contents-judged contents)
    (λ x e. room-judged buffer x (count_in contents) (ap length (sym (number-found contents x.0 x.1 e).signals) ∙ length-signals contents)))
