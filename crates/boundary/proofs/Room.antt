-- What storing the ten numbers of a message asks for, and leaves.
use Prim.Native.Nat.{ℕ, ◌≤◌, ◌<◌}
use mathlib.Core.Path.{◌≡◌}
use mathlib.Core.List.{List, [], ◌∷◌}
use native.Mathlib.Omega.{arith}
use lib.ListN.{length}
use lib.Seq.{sets}
use Rattle.octets.specs.Filled.{filled}
use Rattle.octets.proofs.Filled.{sets-filled}
use Rattle.parts.specs.declared.Span.{Span}
use Rattle.parts.specs.declared.Parts.{Parts}
use Rattle.parts.specs.Spans.{span_size}
use Rattle.boundary.specs.Boundary.{fixed_start_lem, places_of, InSixteenBits}

-- room for ten has each of the ten places
pub ten-places : (n : ℕ) → 10 ≤ n → (0 < n) × (1 < n) × (2 < n) × (3 < n) × (4 < n) × (5 < n) × (6 < n) × (7 < n) × (8 < n) × (9 < n)
ten-places n h = (omega arith, omega arith, omega arith, omega arith, omega arith, omega arith, omega arith, omega arith, omega arith, omega arith)

-- a part's start is a number of 16 bits, and so of 32
pub start_fits : (s : Span) → InSixteenBits s → (s.from ≤ 65535) × (s.from < 65536) × (s.from < 4294967296)
start_fits s h = (omega (arith, h.0, h.1), omega (arith, h.0, h.1), omega (arith, h.0, h.1))

-- stored one after the other, two numbers and the places of the parts fill the front
pub ten-stored : (l : List ℕ) (one two : ℕ) (p : Parts) {start fixed first second optional : ℕ} → 10 ≤ length l
    → start ≡ fixed_start_lem p.fixed → fixed ≡ span_size p.fixed → first ≡ span_size p.first → second ≡ span_size p.second → optional ≡ span_size p.optional
    → sets l 0 (one ∷ two ∷ start ∷ fixed ∷ p.first.from ∷ first ∷ p.second.from ∷ second ∷ p.optional.from ∷ optional ∷ []) ≡ filled (one ∷ two ∷ places_of p) l
ten-stored l one two p h a b c d e = rw (a, b, c, d, e) (sets-filled (one ∷ two ∷ places_of p) l h)
