-- A refusal keeps what was lent.
use Prim.Native.Nat.{ℕ}
use mathlib.Core.Path.{◌≡◌}
use mathlib.Core.List.{List, [], ◌∷◌}
use Rattle.octets.specs.Answer.{refused, ◌then◌}
use Rattle.octets.specs.Filled.{room_for}
use Rattle.octets.proofs.Filled.{done-kept}
use Rattle.isup.specs.Read.{read_of}
use Rattle.finding.specs.Find.{locate_of}
use Rattle.llachurep.specs.Gives.{values_of, read_gives, find_gives}

pub read-gives-keeps : (m parts : List ℕ) (n at : ℕ) → (read_gives m parts).answer ≡ refused n at → (read_gives m parts).left ≡ parts
unfolding read_gives
read-gives-keeps m parts n at e = done-kept parts (read_of m then λ x. room_for parts (10, values_of x)) e

pub find-gives-keeps : (m defaults : List ℕ) (name : ℕ) (stretch : List ℕ) (n at : ℕ) → (find_gives m defaults name stretch).answer ≡ refused n at → (find_gives m defaults name stretch).left ≡ stretch
unfolding find_gives
find-gives-keeps m defaults name stretch n at e = done-kept stretch (locate_of m defaults name then λ s. room_for stretch (s.holder, s.start ∷ s.len ∷ [])) e
