-- The octet that a refusal is about goes into an answer: it is 268 at the most.
use Prim.Native.Nat.{ℕ, ◌≤◌}
use mathlib.Core.Path.{◌≡◌}
use mathlib.Core.List.{List, [], ◌∷◌}
use native.Mathlib.Omega.{arith}
use Rattle.octets.specs.Answer.{refused, ◌then◌}
use Rattle.octets.specs.Filled.{room_for}
use Rattle.octets.proofs.Places.{up-to-then, up-to-done}
use Rattle.isup.specs.Read.{read_of}
use Rattle.isup.specs.Write.{write_of}
use Rattle.isup.proofs.Places.{read-places-within, write-placeless}
use Rattle.finding.specs.Find.{locate_of}
use Rattle.finding.proofs.Places.{find-places-within}
use Rattle.telling.specs.Telling.{In16Bits}
use Rattle.boundary.proofs.Places.{room-placeless}
use Rattle.llachurep.specs.Gives.{values_of, read_gives, find_gives}
use Rattle.llachurep.proofs.Small.{write-small}

pub read-gives-place : (m parts : List ℕ) (n at : ℕ) → (read_gives m parts).answer ≡ refused n at → at ≤ 268
unfolding read_gives
read-gives-place m parts =
    up-to-done 268 parts (read_of m then λ x. room_for parts (10, values_of x))
    (up-to-then 268 (read_of m) (λ x. room_for parts (10, values_of x)) (λ n at e. (read-places-within m n at e).1) (λ x e. room-placeless 268 parts (10, values_of x)))

pub find-gives-place : (m defaults : List ℕ) (name : ℕ) (stretch : List ℕ) (n at : ℕ) → (find_gives m defaults name stretch).answer ≡ refused n at → at ≤ 268
unfolding find_gives
find-gives-place m defaults name stretch =
    up-to-done 268 stretch (locate_of m defaults name then λ s. room_for stretch (s.holder, s.start ∷ s.len ∷ []))
    (up-to-then 268 (locate_of m defaults name) (λ s. room_for stretch (s.holder, s.start ∷ s.len ∷ [])) (λ n at e. find-places-within m defaults name n at e) (λ s e. room-placeless 268 stretch (s.holder, s.start ∷ s.len ∷ [])))

pub write-place : (circuit kind : ℕ) (fixed first second run buffer : List ℕ) (n at : ℕ) → (write_of circuit kind fixed first second run buffer).answer ≡ refused n at → at ≤ 268
write-place circuit kind fixed first second run buffer n at e = omega (arith, write-placeless circuit kind fixed first second run buffer n at e)

-- what writing answers goes into 16 bits
pub write-fits : (circuit kind : ℕ) (fixed first second run buffer : List ℕ) → In16Bits (write_of circuit kind fixed first second run buffer).answer
write-fits circuit kind fixed first second run buffer = (λ n q. omega (arith, write-small circuit kind fixed first second run buffer n q), λ n at q. omega (arith, write-place circuit kind fixed first second run buffer n at q))
