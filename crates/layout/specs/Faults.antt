-- The faults of a message, each in the paper's words, in the paper's order: 1, 2, 3, 4; each
-- variable pointer in turn 5 then 6; the optional pointer 5 then 7; then 8.
use Rattle.std.specs.Prelude.{Option, Some, None}
use Rattle.std.specs.Prelude.{ℕ, ◌+◌, ◌-◌, ◌≤◌, ◌<◌, ◌≡◌, true, List, [], ◌∷◌, ◌++◌, ◌⊎◌, length}
use Rattle.octets.specs.Octet.{octet}
use Rattle.octets.specs.Faults.{Fault, fault}
use Rattle.parts.specs.declared.Span.{Span}
use Rattle.parts.specs.Overlap.{LargerStart}
use Rattle.layout.specs.declared.Shape.{Shape}
use Rattle.layout.specs.Container.{target, past, start_of, end_of}
use Rattle.runs.specs.Params.{Param, Params, Passes}
use Rattle.layout.specs.Laid.{VariableSlot, OptionalSlot, Share}

-- the pointer at p breaks the rule: its target lies before the end of the
-- pointers, or at L or beyond
abbrev pub Breaks : List ℕ → ℕ → ℕ → Type 0
Breaks m e p = (target m p < e) ⊎ (length m ≤ target m p)

-- the optional part that starts at t passes L or is not closed: its whole parameters come to octet
-- i, which is L, where a name was due, or the name octet of a parameter that passes L
abbrev pub NotClosed : List ℕ → ℕ → ℕ → Type 0
NotClosed m t i = (qs : List Param) × Params m t qs i × ((i ≡ length m) ⊎ Passes m i)

-- 8 for two parts, each told by what its span is: they share an octet, and
-- `at` is the larger of their starts
abbrev pub sharing : (Span → Type 0) → (Span → Type 0) → Fault
sharing A B =
    record { number = 8; there = λ at. (a b : Span) × A a × B b × Share a b × LargerStart a b at }

module _ (m : List ℕ) (w : ℕ) (s : Shape) where
  -- 5 then 6 for the k-th variable pointer
  abbrev pub variable_faults : ℕ → List Fault
  variable_faults k =
      let p = start_of w s + k in
      fault 5 p ((k < s.vars) × Breaks m (end_of w s) p)
      ∷ fault 6 (target m p) ((k < s.vars) × (length m < past m (target m p)))
      ∷ []

  -- the optional pointer is there, and is not 0
  abbrev pub Wanted : Type 0
  Wanted = (s.opt ≡ true) × (octet m (end_of w s - 1) ≡ 0 → ⊥)

  -- 5 then 7 for the optional pointer
  abbrev pub optional_faults : List Fault
  optional_faults =
      fault 5 (end_of w s - 1) (Wanted × Breaks m (end_of w s) (end_of w s - 1))
      ∷ record { number = 7; there = λ at. Wanted × NotClosed m (target m (end_of w s - 1)) at }
      ∷ []

  -- the span is that of the k-th variable part
  abbrev pub VariablePart : ℕ → Span → Type 0
  VariablePart k a = VariableSlot m (end_of w s) (start_of w s) k s.vars a

  -- the span is that of the optional part
  abbrev pub OptionalPart : Span → Type 0
  OptionalPart a = (qs : List Param) × OptionalSlot m (end_of w s) s.opt qs a

  -- the pairs in pointer order, by first member, then second
  abbrev pub sharing_faults : List Fault
  sharing_faults =
      sharing (VariablePart 0) (VariablePart 1)
      ∷ sharing (VariablePart 0) (VariablePart 2)
      ∷ sharing (VariablePart 0) OptionalPart
      ∷ sharing (VariablePart 1) (VariablePart 2)
      ∷ sharing (VariablePart 1) OptionalPart
      ∷ sharing (VariablePart 2) OptionalPart
      ∷ []

  -- 4 where the fixed part or the pointers are cut off by L; then the parts
  abbrev pub container_faults : List Fault
  container_faults =
      fault 4 (length m) (length m < end_of w s)
      ∷ (variable_faults 0
      ++ (variable_faults 1 ++ (variable_faults 2 ++ (optional_faults ++ sharing_faults))))

-- 3: the type is not in the table, or its row has more than three variable parameters
abbrev pub NoRow : Option Shape → Type 0
NoRow r = (r ≡ None) ⊎ ((s : Shape) × (r ≡ Some s) × (3 < s.vars))

-- what is wrong with the container of a type that the table has
abbrev pub row_faults : List ℕ → ℕ → Option Shape → List Fault
row_faults m w (Some s) = container_faults m w s
row_faults m w None = []

-- R15. a message of a family: 1 where L is under the header and the type octet, 2 where it is over
-- the longest, 3 for a type that is not in the table or has no row that can be read
abbrev pub message_faults : List ℕ → ℕ → ℕ → Option Shape → List Fault
message_faults m w most r =
    fault 1 0 (length m ≤ w)
    ∷ fault 2 0 (most < length m)
    ∷ fault 3 w (NoRow r)
    ∷ row_faults m w r
