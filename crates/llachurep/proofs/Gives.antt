-- Each way in which reading and finding end.
use Prim.Native.Nat.{ℕ, ◌+◌, ◌*◌, ◌≤◌, ◌<◌}
use mathlib.Core.Path.{◌≡◌, refl}
use mathlib.Core.List.{List, [], ◌∷◌}
use borrow.Author.Tests.{lt-ltb, le-ltb}
use lib.ListN.{length}
use Rattle.octets.specs.Answer.{accepted, refused}
use Rattle.octets.specs.Filled.{done, filled, room_for}
use Rattle.isup.specs.declared.Message.{Message}
use Rattle.isup.specs.Read.{read_of}
use Rattle.finding.specs.Find.{Spot, locate_of}
use Rattle.boundary.specs.Boundary.{given, given_by}
use Rattle.llachurep.specs.Gives.{values_of, read_gives, find_gives}

module _ (m parts : List ℕ) where
  pub read-refused : (n at : ℕ) → read_of m ≡ refused n at → given (65536 * n + at) parts ≡ given_by (read_gives m parts)
  unfolding read_gives
  read-refused n at e = rw e refl

  module _ (x : Message) (e : read_of m ≡ accepted x) where
    pub read-no-room : length parts < 10 → given 851968 parts ≡ given_by (read_gives m parts)
    unfolding read_gives
    read-no-room h = rw (e, lt-ltb _ _ h) refl

    pub read-given : 10 ≤ length parts → given 10 (filled (values_of x) parts) ≡ given_by (read_gives m parts)
    unfolding read_gives
    read-given h = rw (e, le-ltb _ _ h) refl

module _ (m defaults : List ℕ) (name : ℕ) (stretch : List ℕ) where
  pub find-refused : (n at : ℕ) → locate_of m defaults name ≡ refused n at → given (65536 * n + at) stretch ≡ given_by (find_gives m defaults name stretch)
  unfolding find_gives
  find-refused n at e = rw e refl

  pub find-given : (s : Spot) → locate_of m defaults name ≡ accepted s → given_by (done stretch (room_for stretch (s.holder, s.start ∷ s.len ∷ []))) ≡ given_by (find_gives m defaults name stretch)
  unfolding find_gives
  find-given s e = rw e refl
