-- A refusal in the terms of the number that C sees, of each function.
use Prim.Native.Nat.{ℕ, ◌≤◌}
use mathlib.Core.Path.{◌≡◌}
use mathlib.Core.List.{List}
use native.Mathlib.Omega.{arith}
use Rattle.octets.specs.Answer.{accepted, refused, ◌then◌}
use Rattle.octets.specs.Filled.{Done, room_for}
use Rattle.octets.proofs.Places.{refusal-so}
use Rattle.octets.proofs.Filled.{done-kept}
use Rattle.isup.specs.Write.{write_in, write_of}
use Rattle.isup.proofs.WriteBack.{write-judges}
use Rattle.boundary.specs.Boundary.{given, given_by}
use Rattle.boundary.specs.Refuses.{Refuses}
use Rattle.boundary.proofs.Refused.{by-32-wide}
use Rattle.boundary.proofs.Numbers.{AtLeastOne}
use Rattle.llachurep.specs.Gives.{read_gives, find_gives}
use Rattle.llachurep.proofs.Small.{write-small, read-gives-small, find-gives-small}
use Rattle.llachurep.proofs.Places.{read-gives-place, find-gives-place, write-place}
use Rattle.llachurep.proofs.Keeps.{read-gives-keeps, find-gives-keeps}
use Rattle.llachurep.proofs.Judged.{read-gives-judges, find-gives-judges}
use Rattle.llachurep.proofs.Numbers.{read-from-one, find-from-one, write-from-one}

-- of ISUP's, the octet that a refusal is about is 268 at the most
by-32 : (d : Done ℕ) (r : ℕ) (lent left : List ℕ) → ((n : ℕ) → d.answer ≡ accepted n → n ≤ 65535) → ((n at : ℕ) → d.answer ≡ refused n at → 1 ≤ n) → ((n at : ℕ) → d.answer ≡ refused n at → at ≤ 268) → ((n at : ℕ) → d.answer ≡ refused n at → d.left ≡ lent)
    → given r left ≡ given_by d → Refuses 65536 r d.answer lent left
by-32 d r lent left small from place = by-32-wide d r lent left small from (λ n at q. omega (arith, place n at q))

pub read-refuses : (m parts : List ℕ) (r : ℕ) (left : List ℕ) → given r left ≡ given_by (read_gives m parts) → Refuses 65536 r (read_gives m parts).answer parts left
read-refuses m parts r left = by-32 (read_gives m parts) r parts left (read-gives-small m parts) (refusal-so AtLeastOne _ _ (read-gives-judges m parts) (read-from-one m parts)) (read-gives-place m parts) (read-gives-keeps m parts)

pub find-refuses : (m defaults : List ℕ) (name : ℕ) (stretch : List ℕ) (r : ℕ) (left : List ℕ) → given r left ≡ given_by (find_gives m defaults name stretch) → Refuses 65536 r (find_gives m defaults name stretch).answer stretch left
find-refuses m defaults name stretch r left =
    by-32 (find_gives m defaults name stretch) r stretch left (find-gives-small m defaults name stretch) (refusal-so AtLeastOne _ _ (find-gives-judges m defaults name stretch) (find-from-one m defaults name stretch)) (find-gives-place m defaults name stretch) (find-gives-keeps m defaults name stretch)

pub write-refuses : (circuit kind : ℕ) (fixed first second run buffer : List ℕ) (r : ℕ) (left : List ℕ) → given r left ≡ given_by (write_of circuit kind fixed first second run buffer)
    → Refuses 65536 r (write_of circuit kind fixed first second run buffer).answer buffer left
unfolding write_of
write-refuses circuit kind fixed first second run buffer r left =
    by-32 (write_of circuit kind fixed first second run buffer) r buffer left (λ n q. omega (arith, write-small circuit kind fixed first second run buffer n q))
    (refusal-so AtLeastOne _ _ (write-judges circuit kind fixed first second run buffer) (write-from-one circuit kind fixed first second run buffer))
    (write-place circuit kind fixed first second run buffer)
    (λ n at q. done-kept buffer (write_in circuit kind fixed first second run then room_for buffer) q)
