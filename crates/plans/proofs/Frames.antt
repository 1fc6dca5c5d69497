-- Framing: octets are framed messages in at most one way.
use Prim.Native.Nat.{ℕ, zero, suc, ◌≤◌}
use mathlib.Core.Path.{◌≡◌, refl, sym, ◌∙◌, ap}
use mathlib.Core.Bool.{false}
use mathlib.Core.List.{List, [], ◌∷◌, ◌++◌}
use native.Mathlib.Omega.{arith}
use borrow.Author.Tests.{le-ltb}
use lib.Dec.{ltb}
use lib.ListN.{length, take, drop, length-append}
use lib.Seq.{take-append_seam, drop-append_seam}
use Rattle.octets.specs.Choice.{when◌then◌else◌}
use Rattle.octets.specs.Answer.{Answer, accepted, refused, ◌then◌}
use Rattle.octets.proofs.Answer.{accepted-same}
use Rattle.plans.specs.Frames.{framed}

-- the messages that octets are, or that the last of them is cut off; f is
-- at least the count of octets
unfoldable unframed : ℕ → List ℕ → Answer (List (List ℕ))
unframed zero [] = accepted []
unframed zero (n ∷ rest) = refused 0 0
unframed (suc f) [] = accepted []
unframed (suc f) (n ∷ rest) =
    when ltb (length rest) n then refused 0 0 else (unframed f (drop n rest) then λ ms. accepted (take n rest ∷ ms))

-- one message is at the front, and the others after it
front_length : (m xs : List ℕ) → ltb (length (m ++ xs)) (length m) ≡ false
front_length m xs = le-ltb (length (m ++ xs)) (length m) (omega (arith, length-append m xs))

-- framed messages come out again
unframed-framed : (f : ℕ) (ms : List (List ℕ)) → length (framed ms) ≤ f → unframed f (framed ms) ≡ accepted ms
unfolding framed unframed
unframed-framed zero [] h = refl
unframed-framed (suc f) [] h = refl
unframed-framed zero (m ∷ ms) h = absurd (omega arith)
unframed-framed (suc f) (m ∷ ms) h =
    let ih = unframed-framed f ms (omega (arith, length-append m (framed ms))) in
    rw (front_length m (framed ms), take-append_seam m (framed ms), drop-append_seam m (framed ms), ih)

-- at most one way
pub framed-one : (ms ns : List (List ℕ)) → framed ms ≡ framed ns → ms ≡ ns
framed-one ms ns e =
    let a = unframed-framed (length (framed ms)) ms (omega arith) in
    let b = unframed-framed (length (framed ms)) ns (omega (arith, ap length e)) in
    accepted-same (sym a ∙ ap (unframed (length (framed ms))) e ∙ b)
