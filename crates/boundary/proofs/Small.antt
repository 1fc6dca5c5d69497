-- What an accepted answer of a function that fills a lent buffer comes from.
use Prim.Native.Nat.{ℕ}
use mathlib.Core.Path.{◌≡◌}
use mathlib.Core.Bool.{Bool, true, false}
use mathlib.Core.List.{List}
use lib.Dec.{ltb}
use lib.ListN.{length}
use Rattle.octets.specs.Choice.{when◌then◌else◌}
use Rattle.octets.specs.Answer.{Answer, accepted, refused, ◌then◌}
use Rattle.octets.specs.Filled.{Done, done, leaving, room_for}
use Rattle.octets.proofs.Answer.{refused-accepted, accepted-same}

-- an answer with what it leaves
pub whole-done : {A : Type 0} {d : Done A} {a : A} → d.answer ≡ accepted a → d ≡ leaving (accepted a) d.left
whole-done {A} {d} e = λ i. leaving (e i) d.left

-- what is accepted with room was accepted before
pub roomy : {A : Type 0} (buffer : List ℕ) (x : Answer (A × List ℕ)) {a : A} → (done buffer (x then room_for buffer)).answer ≡ accepted a → (octets : List ℕ) × (x ≡ accepted (a, octets))
roomy {A} buffer (accepted y) {a} e = go (ltb (length buffer) (length y.1)) e
  where
    go : (t : Bool) → (done buffer (when t then refused 13 0 else accepted y)).answer ≡ accepted a → (octets : List ℕ) × (accepted y ≡ accepted (a, octets))
    go true h = absurd (refused-accepted h)
    go false h = (y.1, let p = accepted-same h in λ i. accepted (p i, y.1))
roomy buffer (refused n at) e = absurd (refused-accepted e)
