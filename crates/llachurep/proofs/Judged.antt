-- Refused exactly when, at the boundary: the number is the first fault in the paper's order, 13
-- last, and acceptance is the absence of all.
use Prim.Native.Nat.{ℕ}
use mathlib.Core.List.{List, [], ◌∷◌}
use native.Mathlib.Omega.{arith}
use borrow.Author.Tests.{ltb-true, ltb-false}
use lib.Dec.{ltb}
use lib.ListN.{length}
use Rattle.octets.specs.Answer.{◌then◌}
use Rattle.octets.specs.Filled.{room_for}
use Rattle.octets.specs.Faults.{Judges}
use Rattle.octets.proofs.Faults.{judges-done, judges-if, judges-then}
use Rattle.octets.proofs.Filled.{judges-filled}
use Rattle.isup.specs.Read.{read_of}
use Rattle.isup.specs.Faults.{reader_faults}
use Rattle.isup.proofs.Judged.{read-judges}
use Rattle.finding.specs.Find.{locate_of}
use Rattle.finding.specs.Faults.{find_faults}
use Rattle.finding.proofs.Judged.{locate-judges}
use Rattle.llachurep.specs.Gives.{values_of, read_gives, find_gives}
use Rattle.llachurep.specs.Faults.{read_gives_faults, find_gives_faults}

pub read-gives-judges : (m parts : List ℕ) → Judges (read_gives m parts).answer (read_gives_faults m parts)
unfolding read_gives
read-gives-judges m parts =
    judges-filled parts (read_of m then λ x. room_for parts (10, values_of x)) (read_gives_faults m parts)
    (judges-then (read_of m) (λ x. room_for parts (10, values_of x)) (reader_faults m) _ (read-judges m)
    (λ x e. judges-if (ltb (length parts) 10) (ltb-true (length parts) 10) (λ t h. omega (arith, ltb-false (length parts) 10 t)) (λ t. judges-done _)))

pub find-gives-judges : (m defaults : List ℕ) (name : ℕ) (stretch : List ℕ) → Judges (find_gives m defaults name stretch).answer (find_gives_faults m defaults name stretch)
unfolding find_gives
find-gives-judges m defaults name stretch =
    judges-filled stretch (locate_of m defaults name then λ s. room_for stretch (s.holder, s.start ∷ s.len ∷ [])) (find_gives_faults m defaults name stretch)
    (judges-then (locate_of m defaults name) (λ s. room_for stretch (s.holder, s.start ∷ s.len ∷ [])) (find_faults m defaults name) _ (locate-judges m defaults name)
    (λ s e. judges-if (ltb (length stretch) 2) (ltb-true (length stretch) 2) (λ t h. omega (arith, ltb-false (length stretch) 2 t)) (λ t. judges-done _)))
