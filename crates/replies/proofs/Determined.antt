-- Any two answers that the contract of `reply` allows are equal, with the buffer afterwards; a
-- refusal keeps the buffer, and is 13 exactly where there is no room.
use Prim.Native.Nat.{ℕ, ◌<◌}
use mathlib.Core.Path.{◌≡◌}
use mathlib.Core.Bool.{Bool}
use mathlib.Core.List.{List, [], ◌∷◌}
use borrow.Author.Tests.{ltb-true, ltb-false}
use native.Mathlib.Omega.{arith}
use lib.Dec.{ltb}
use lib.ListN.{length}
use Rattle.std.specs.Prelude.{Result}
use Rattle.octets.specs.Octet.{octet}
use Rattle.octets.specs.Faults.{Judges, fault}
use Rattle.octets.specs.Filled.{leaving, room_for}
use Rattle.octets.specs.Told.{told}
use Rattle.octets.specs.Answer.{refused}
use Rattle.octets.specs.declared.Refusal.{Refusal}
use Rattle.octets.proofs.Faults.{judges-done, judges-if}
use Rattle.octets.proofs.Filled.{judges-filled}
use Rattle.octets.proofs.Told.{writing-determined, writing-keeps}
use Rattle.rows.specs.declared.Act.{Act}
use Rattle.replies.specs.Replies.{answer_to, notice_of, sent, reply_length}
use Rattle.replies.proofs.Writing.{length-answer}

module _ (act : Act) (circuit range block : ℕ) (group status buffer : List ℕ) where
  pub reply-determined : (r s : Result ℕ Refusal) (left left' : List ℕ)
      → leaving (told r) left ≡ sent (answer_to act circuit range block group status) buffer
      → leaving (told s) left' ≡ sent (answer_to act circuit range block group status) buffer
      → (r ≡ s) × (left ≡ left')
  reply-determined r s left left' p q = writing-determined _ r s left left' p q

  pub reply-keeps : (n at : ℕ) (left : List ℕ) → leaving (refused n at) left ≡ sent (answer_to act circuit range block group status) buffer → left ≡ buffer
  reply-keeps n at left e = writing-keeps buffer (let o = answer_to act circuit range block group status in room_for buffer (length o, o)) n at left e

  -- 13, and no other number, where the buffer is shorter than the answer
  pub reply-judges : Judges (sent (answer_to act circuit range block group status) buffer).answer (fault 13 0 (length buffer < reply_length act range (octet group 0)) ∷ [])
  reply-judges =
      let o = answer_to act circuit range block group status in
      let e = length-answer act circuit range block group status in
      judges-filled buffer (room_for buffer (length o, o)) _
      (judges-if (ltb (length buffer) (length o))
      (λ t. omega (arith, ltb-true (length buffer) (length o) t))
      (λ t h. omega (arith, ltb-false (length buffer) (length o) t))
      (λ t. judges-done (length o, o)))

-- ---- the desk's notice
module _ (circuit : ℕ) (set : Bool) (buffer : List ℕ) where
  pub notice-determined : (r s : Result ℕ Refusal) (left left' : List ℕ)
      → leaving (told r) left ≡ sent (notice_of circuit set) buffer
      → leaving (told s) left' ≡ sent (notice_of circuit set) buffer
      → (r ≡ s) × (left ≡ left')
  notice-determined r s left left' p q = writing-determined _ r s left left' p q

  pub notice-keeps : (n at : ℕ) (left : List ℕ) → leaving (refused n at) left ≡ sent (notice_of circuit set) buffer → left ≡ buffer
  notice-keeps n at left e = writing-keeps buffer (let o = notice_of circuit set in room_for buffer (length o, o)) n at left e

  -- 13, and no other number, where the buffer has fewer than three octets
  pub notice-judges : Judges (sent (notice_of circuit set) buffer).answer (fault 13 0 (length buffer < 3) ∷ [])
  notice-judges =
      let o = notice_of circuit set in
      judges-filled buffer (room_for buffer (length o, o)) _
      (judges-if (ltb (length buffer) 3)
      (λ t. ltb-true (length buffer) 3 t)
      (λ t h. omega (arith, ltb-false (length buffer) 3 t))
      (λ t. judges-done (3, o)))
