-- The compact form, declared with no algorithm: the parts follow the pointers and one another with
-- nothing between or after, and the optional pointer is 0 if there are no optional parameters.
use Rattle.std.specs.Prelude.{ℕ, ◌<◌, ◌≡◌, List, [], ◌∷◌, ◌⊎◌, length}
use Rattle.octets.specs.Octet.{octet, octets}
use Rattle.parts.specs.declared.Span.{Span}
use Rattle.layout.specs.declared.Shape.{Shape}
use Rattle.parts.specs.declared.Parts.{Parts}
use Rattle.parts.specs.Spans.{part_of}
use Rattle.layout.specs.Container.{nothing, end_of}
use Rattle.runs.specs.Params.{Param}
use Rattle.layout.specs.Laid.{LaidOut}
use Rattle.writing.specs.Write.{Order, order}

-- from octet e on these spans follow one another, the last octet of the last before z; a part that
-- is not there takes no octet
abbrev pub Tight : ℕ → List Span → ℕ → Type 0
Tight e [] z = z ≡ e
Tight e (s ∷ ss) z =
    ((s ≡ nothing) × Tight e ss z) ⊎ ((s.from ≡ e) × (s.from < s.to) × Tight s.to ss z)

-- R12. the message is laid out so, in compact form
pub record Compact (m : List ℕ) (w : ℕ) (s : Shape) (p : Parts) (qs : List Param) : Type 0 where
  pub laid : LaidOut m w s p qs
  pub tight : Tight (end_of w s) (laid.a ∷ laid.b ∷ laid.c ∷ laid.d ∷ []) (length m)
  pub dropped : qs ≡ [] → laid.d ≡ nothing

-- what a message says whose parts are these, with that header: type, fixed
-- octets, variable contents, optional run
abbrev pub said_with : List ℕ → List ℕ → ℕ → Parts → Order
said_with head m w p =
    order head (octet m w) (part_of m p.fixed) (part_of m p.first) (part_of m p.second)
    (part_of m p.third) (part_of m p.optional)

-- with its own header
abbrev pub said_by : List ℕ → ℕ → Parts → Order
said_by m w p = said_with (octets m 0 w) m w p
