-- The octet that a refusal is about: the reader's by document 02's rule; reading and writing again
-- hands it on; the writer's own numbers are about none.
use Prim.Native.Nat.{ℕ, ◌≤◌, ◌<◌}
use mathlib.Core.Path.{◌≡◌, ap}
use mathlib.Core.List.{List}
use mathlib.Core.Logic.{◌⊎◌, inl, inr, ⊎_elim}
use native.Mathlib.Omega.{arith}
use lib.Dec.{ltb}
use lib.ListN.{length}
use Rattle.octets.specs.Octet.{octet}
use Rattle.octets.specs.Answer.{accepted, refused, ◌then◌}
use Rattle.octets.specs.Filled.{room_for}
use Rattle.octets.proofs.Places.{up-to-refused, up-to-if, up-to-room, up-to-done}
use Rattle.layout.specs.Places.{Place}
use Rattle.family.specs.Family.{read_in}
use Rattle.family.proofs.Places as family
use Rattle.isup.specs.Table.{shape_of, isup}
use Rattle.isup.specs.Read.{circuit_of_lem, message, read_of}
use Rattle.isup.specs.Write.{head_of, order_of, write_in, write_of, compact_in, compact_of}

-- the message's refusals are its parts'
module _ (m : List ℕ) (n at : ℕ) where
  pub parts : read_of m ≡ refused n at → read_in isup m ≡ refused n at
  unfolding read_of
  parts e = family.parts-refused (read_in isup m) (message m) n at e

  whole : read_in isup m ≡ refused n at → read_of m ≡ refused n at
  unfolding read_of
  whole e = ap (λ z. z then λ p. accepted (message m p)) e

  either : (read_of m ≡ refused n at) ⊎ (at ≡ 0) → (read_in isup m ≡ refused n at) ⊎ (at ≡ 0)
  either = ⊎_elim (λ e. inl (parts e)) (λ z. inr z)

  -- what a reader's refusal is about, number by number; the type octet is octet 2
  pub read-places : read_of m ≡ refused n at → Place m 2 (shape_of (octet m 2)) n at
  read-places e = family.read-places isup m n at (parts e)

  -- it is never beyond the message's length, nor beyond the longest message's
  pub read-places-within : read_of m ≡ refused n at → (at ≤ length m) × (at ≤ 268)
  read-places-within e = family.read-places-within isup m n at (parts e)

  -- of what hands the reader's refusals on: the octet is one of the longest message's
  pub handed-within : (read_of m ≡ refused n at) ⊎ (at ≡ 0) → at ≤ 268
  handed-within h = family.handed-within isup m n at (either h)

  -- and a number that is no reader's from 3 to 8 is about no octet
  pub others-placeless : (read_of m ≡ refused n at) ⊎ (at ≡ 0) → (n < 3) ⊎ (8 < n) → at ≡ 0
  others-placeless h = family.others-placeless isup m n at (either h)

-- every number of the writer is about no octet, its 3 and its 2 too
pub write-placeless : (circuit kind : ℕ) (fixed first second run buffer : List ℕ) (n at : ℕ) → (write_of circuit kind fixed first second run buffer).answer ≡ refused n at → at ≡ 0
unfolding write_of write_in
write-placeless circuit kind fixed first second run buffer n at e =
    let p = up-to-if 0 (ltb 4095 circuit) (λ _. up-to-refused 0 9 0 (omega arith)) (λ _. family.write-in-placeless isup (order_of circuit kind fixed first second run)) in
    let h = up-to-done 0 buffer (write_in circuit kind fixed first second run then room_for buffer) (up-to-room 0 buffer (write_in circuit kind fixed first second run) p) n at e in
    omega (arith, h)

-- ---- reading and writing again: a refusal is the reader's, octet and all, or about no octet
module _ (m buffer : List ℕ) (n at : ℕ) (e : (compact_of m buffer).answer ≡ refused n at) where
  pub compact-hands-on : (read_of m ≡ refused n at) ⊎ (at ≡ 0)
  unfolding compact_of compact_in
  compact-hands-on = ⊎_elim (λ q. inl (whole m n at q)) (λ z. inr z) (family.compact-hands-on isup (head_of (circuit_of_lem m)) m buffer n at e)

  pub compact-places-within : at ≤ 268
  compact-places-within = handed-within m n at compact-hands-on

  pub compact-others : (n < 3) ⊎ (8 < n) → at ≡ 0
  compact-others = others-placeless m n at compact-hands-on
