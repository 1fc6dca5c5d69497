-- R16. The octet that a refusal is about, number by number, as the request says it. How a reader
-- finds the octet plays no part.
use Rattle.std.specs.Prelude.{Option, Some}
use Rattle.std.specs.Prelude.{ℕ, ◌+◌, ◌-◌, ◌≤◌, ◌<◌, ◌≡◌, List, ◌⊎◌, length}
use Rattle.parts.specs.declared.Span.{Span}
use Rattle.layout.specs.declared.Shape.{Shape}
use Rattle.layout.specs.Container.{target, past, start_of, end_of}
use Rattle.layout.specs.Laid.{Share}
use Rattle.layout.specs.Faults.{Breaks, NotClosed, VariablePart, OptionalPart}
use Rattle.parts.specs.Overlap.{LargerStart}

module _ (m : List ℕ) (w : ℕ) (s : Shape) where
  -- the parts in pointer order: 0, 1 and 2 are the variable parts, 3 is the optional part
  abbrev pub PartAt : ℕ → Span → Type 0
  PartAt k a = ((k < 3) × VariablePart m w s k a) ⊎ ((k ≡ 3) × OptionalPart m w s a)

  -- parts i and j share an octet, and `at` is the later of their starts
  abbrev pub Overlap : ℕ → ℕ → ℕ → Type 0
  Overlap i j at = (a b : Span) × PartAt i a × PartAt j b × Share a b × LargerStart a b at

  -- of the pairs that share an octet, by first member and then by second, `at`
  -- is the later start of the first
  abbrev pub FirstOverlap : ℕ → Type 0
  FirstOverlap at =
      (i j : ℕ) × (i < j) × (j ≤ 3) × Overlap i j at
      × ((i' j' at' : ℕ) → i' < j' → j' ≤ 3 → (i' < i) ⊎ ((i' ≡ i) × (j' < j)) → Overlap i' j' at'
      → ⊥)

  -- what a refusal from 5 to 8 is about, in a message of that shape
  abbrev pub PartPlace : ℕ → ℕ → Type 0
  PartPlace n at =
      -- 5: the octet of a pointer, which breaks the rule
      ((n ≡ 5) × (start_of w s ≤ at) × (at < end_of w s) × Breaks m (end_of w s) at)
      -- 6: the length octet at which a variable pointer points, and the contents after it pass L
      ⊎ ((n ≡ 6) × ((p : ℕ) × (start_of w s ≤ p) × (p < start_of w s + s.vars) × (at ≡ target m p))
      × (length m < past m at))
      -- 7: the name octet of the optional parameter that passes L, or L where a name was due
      ⊎ ((n ≡ 7) × NotClosed m (target m (end_of w s - 1)) at)
      -- 8: the later start of the first pair that shares an octet
      ⊎ ((n ≡ 8) × FirstOverlap at)

-- R16. what a reader's refusal is about: 1 and 2 no octet, 3 the type's octet, 4 the message's
-- length, the others a part
abbrev pub Place : List ℕ → ℕ → Option Shape → ℕ → ℕ → Type 0
Place m w r n at =
    ((n < 3) × (at ≡ 0))
    ⊎ ((n ≡ 3) × (at ≡ w))
    ⊎ ((n ≡ 4) × (at ≡ length m))
    ⊎ ((s : Shape) × (r ≡ Some s) × PartPlace m w s n at)
