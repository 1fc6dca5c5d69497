-- One step of a walk over signals to write, as a proof of the code cites it.
use Prim.Native.Nat.{ℕ, suc, ◌+◌, ◌*◌, ◌<◌, ◌≤◌}
use mathlib.Core.Path.{◌≡◌, ◌∙◌}
use mathlib.Core.List.{List, ◌∷◌}
use native.Mathlib.Omega.{arith}
use lib.ListN.{length, get_or, drop, set, drop_of_length-le}
use lib.Seq.{drop-cons, sets}
use denote.Ref.{MutBor, at_last}
use Rattle.number.specs.Halves.{halves_joined, two_to_an_octet}

-- the next signal is taken for a low half
pub write-taken : (signals : List ℕ) (x : MutBor (List ℕ)) {y : MutBor (List ℕ)} (i k k' : ℕ) → k < length signals → k' ≡ suc k → y ≡ at_last x (sets x.now i (two_to_an_octet (get_or signals k 0 ∷ drop k' signals))) → y ≡ at_last x (sets x.now i (two_to_an_octet (drop k signals)))
write-taken signals x i k k' h e q = rw (drop-cons signals k 0 h, ← e) q

-- none is left to write
pub write-none : (signals : List ℕ) (x : MutBor (List ℕ)) (i k : ℕ) → length signals ≤ k → x ≡ at_last x (sets x.now i (two_to_an_octet (drop k signals)))
unfolding two_to_an_octet
write-none signals x i k h = rw (drop_of_length-le signals h)

-- the last signal is written over filler 0
pub write-last : (signals : List ℕ) (x : MutBor (List ℕ)) (i k low : ℕ) → length signals ≤ k → at_last x (set x.now i low) ≡ at_last x (sets x.now i (two_to_an_octet (low ∷ drop k signals)))
unfolding two_to_an_octet
write-last signals x i k low h =
    let e : low + 16 * 0 ≡ low = omega arith in rw (drop_of_length-le signals h, e)

-- two signals are written as one octet, and then the rest
pub write-both : (signals : List ℕ) (x : MutBor (List ℕ)) {y : MutBor (List ℕ)} (i i' k k' low v : ℕ) → k < length signals → i' ≡ suc i → k' ≡ suc k → y ≡ at_last x (sets (set x.now i v) i' (two_to_an_octet (drop k' signals))) → v ≡ halves_joined low (get_or signals k 0) → y ≡ at_last x (sets x.now i (two_to_an_octet (low ∷ drop k signals)))
unfolding two_to_an_octet
write-both signals x i i' k k' low v h p q rest e = rest ∙ rw (drop-cons signals k 0 h, p, q, e)
