-- Which octets a reader looks at: those of the type, the fixed part, the pointers and the parts.
-- Gaps and octets after the last part are ignored.
use Rattle.std.specs.Prelude.{ℕ, ◌≤◌, ◌<◌, ◌≡◌, List, ◌⊎◌, length}
use Rattle.octets.specs.Octet.{octet}
use Rattle.layout.specs.declared.Shape.{Shape}
use Rattle.parts.specs.declared.Parts.{Parts}
use Rattle.layout.specs.Container.{end_of}
use Rattle.runs.specs.Params.{Param}
use Rattle.layout.specs.Laid.{In, LaidOut}

-- R11. octet i is the type's, the fixed part's or a pointer's, or in one of the parts
abbrev pub LookedAt : {m : List ℕ} {w : ℕ} {s : Shape} {p : Parts} {qs : List Param}
    → LaidOut m w s p qs → ℕ → Type 0
LookedAt {m} {w} {s} l i =
    ((w ≤ i) × (i < end_of w s)) ⊎ (In l.a i ⊎ (In l.b i ⊎ (In l.c i ⊎ In l.d i)))

-- the other message has each of these octets, and it is the same
abbrev pub Agrees : {m : List ℕ} {w : ℕ} {s : Shape} {p : Parts} {qs : List Param}
    → LaidOut m w s p qs → List ℕ → Type 0
Agrees {m} l m' = (i : ℕ) → LookedAt l i → (i < length m') × (octet m' i ≡ octet m i)
