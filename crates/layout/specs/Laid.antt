-- Where the parts of a message lie, as the standard says it: no order of
-- reading, no refusals, no algorithm.
use Rattle.std.specs.Prelude.{Option, Some}
use Rattle.std.specs.Prelude.{ℕ, ◌+◌, ◌-◌, ◌≤◌, ◌<◌, ◌≡◌, Bool, true, false, List, [], ◌∷◌, ◌⊎◌, length}
use Rattle.octets.specs.Octet.{octet}
use Rattle.runs.specs.Params.{Param, Run}
use Rattle.parts.specs.declared.Span.{Span}
use Rattle.layout.specs.declared.Shape.{Shape}
use Rattle.parts.specs.declared.Parts.{Parts}
use Rattle.parts.specs.Spans.{span}
use Rattle.layout.specs.Container.{nothing, start_of, end_of}
use Rattle.parts.specs.Overlap.{held}

-- R8. the pointer at octet p points at t: counted from the pointer itself, not before e, where the
-- pointers end, and within the message
pub record Points (m : List ℕ) (e p t : ℕ) : Type 0 where
  pub counted : t ≡ p + octet m p
  pub behind : e ≤ t
  pub within : t < length m

-- R9. the span is the variable parameter whose pointer stands at p: a length octet, then that many
-- octets, all within the message
pub record Variable (m : List ℕ) (e p : ℕ) (s : Span) : Type 0 where
  pub pointed : Points m e p s.from
  pub ends : s.to ≡ s.from + 1 + octet m s.from
  pub inside : s.to ≤ length m

-- R8, R10. the optional part whose pointer stands at p, with its parameters: a
-- pointer of 0 says that nothing is there
abbrev pub Optional : List ℕ → ℕ → ℕ → List Param → Span → Type 0
Optional m e p qs s =
    ((octet m p ≡ 0) × (qs ≡ []) × (s ≡ nothing))
    ⊎ ((octet m p ≡ 0 → ⊥) × Points m e p s.from × Run m s.from qs s.to)

-- the k-th of n variable parameters, the first pointer at `at`; nothing
-- where there are not that many
abbrev pub VariableSlot : List ℕ → ℕ → ℕ → ℕ → ℕ → Span → Type 0
VariableSlot m e at k n s = ((k < n) × Variable m e (at + k) s) ⊎ ((n ≤ k) × (s ≡ nothing))

-- the optional part, if the shape has one: its pointer is the last of the pointers
abbrev pub OptionalSlot : List ℕ → ℕ → Bool → List Param → Span → Type 0
OptionalSlot m e true qs s = Optional m e (e - 1) qs s
OptionalSlot m e false qs s = (qs ≡ []) × (s ≡ nothing)

-- octet i is in the span
abbrev pub In : Span → ℕ → Type 0
In s i = (s.from ≤ i) × (i < s.to)

-- the two share an octet
abbrev pub Share : Span → Span → Type 0
Share a b = (i : ℕ) × In a i × In b i

-- the span shares an octet with none of the list
abbrev pub ApartFrom : Span → List Span → Type 0
ApartFrom a [] = Unit {0}
ApartFrom a (b ∷ bs) = (Share a b → ⊥) × ApartFrom a bs

-- R11. no two of the list share an octet
abbrev pub AllApart : List Span → Type 0
AllApart [] = Unit {0}
AllApart (a ∷ bs) = ApartFrom a bs × AllApart bs

-- R7. the message has that shape, with its type octet at w; these are its
-- parts, and qs its optional parameters
pub record LaidOut (m : List ℕ) (w : ℕ) (shape : Shape) (p : Parts) (qs : List Param) : Type 0 where
  -- the octets that each part takes: variable parameters with their length octets, the optional
  -- part through its closing 0
  pub a : Span
  pub b : Span
  pub c : Span
  pub d : Span
  -- a row has three variable parameters at the most
  pub few : shape.vars ≤ 3
  pub whole : end_of w shape ≤ length m
  pub first : VariableSlot m (end_of w shape) (start_of w shape) 0 shape.vars a
  pub second : VariableSlot m (end_of w shape) (start_of w shape) 1 shape.vars b
  pub third : VariableSlot m (end_of w shape) (start_of w shape) 2 shape.vars c
  pub optional : OptionalSlot m (end_of w shape) shape.opt qs d
  pub apart : AllApart (a ∷ b ∷ c ∷ d ∷ [])
  -- what the parts hold
  pub holds : p ≡ held (span (w + 1) (start_of w shape)) a b c d

-- a whole message of a family: it has a type octet, is not too long, and
-- its type's row says its shape
pub record Framed (m : List ℕ) (w top : ℕ) (row : Option Shape) (p : Parts) : Type 0 where
  pub shape : Shape
  pub params : List Param
  pub least : w < length m
  pub most : length m ≤ top
  pub listed : row ≡ Some shape
  pub laid : LaidOut m w shape p params
