-- The faults of writing, each in the paper's words, in the paper's order: 10, 11, 12, 2, 13.
use Rattle.std.specs.Prelude.{ℕ, ◌+◌, ◌≤◌, ◌<◌, ◌≡◌, false, List, [], ◌∷◌, ◌++◌, ◌⊎◌, length}
use Rattle.octets.specs.Faults.{Fault, fault}
use Rattle.layout.specs.declared.Shape.{Shape}
use Rattle.runs.specs.Params.{BadRun}
use Rattle.measuring.specs.Measure.{gap}
use Rattle.writing.specs.Write.{Order, order_octets}

-- R18. 10: the shape has more than three variable parts, the fixed octets have another count than
-- the shape says, or there are contents for a part that it lacks
abbrev pub Misfits : Shape → Order → Type 0
Misfits s o =
    (3 < s.vars)
    ⊎ ((length o.fixed ≡ s.fixed → ⊥)
    ⊎ (((s.vars ≤ 0) × (0 < length o.first))
    ⊎ (((s.vars ≤ 1) × (0 < length o.second))
    ⊎ (((s.vars ≤ 2) × (0 < length o.third))
    ⊎ ((s.opt ≡ false) × (0 < length o.run))))))

-- R18. 12 in plain numbers: contents of more than 255 octets; or a second, a third or the optional
-- pointer that would have to reach further than 255. A pointer reaches over the pointers from
-- itself on and over the parameters before its own
abbrev pub Exceeds : Shape → Order → Type 0
Exceeds s o =
    let a = length o.first in
    let b = length o.second in
    let c = length o.third in
    (255 < a)
    ⊎ ((255 < b)
    ⊎ ((255 < c)
    ⊎ (((1 < s.vars) × (255 < gap s + a))
    ⊎ (((2 < s.vars) × (255 < gap s + a + b))
    ⊎ ((0 < length o.run) × (255 < gap s + a + b + c))))))

-- the faults of writing an order, but for the buffer's room
abbrev pub parts_faults : Shape → ℕ → Order → List Fault
parts_faults s most o =
    fault 10 0 (Misfits s o)
    ∷ fault 11 0 (BadRun o.run)
    ∷ fault 12 0 (Exceeds s o)
    ∷ fault 2 0 (most < length (order_octets s o))
    ∷ []

-- all of them, 13 last: the lent output is shorter than the octets of the order
abbrev pub write_parts_faults : Shape → ℕ → Order → List ℕ → List Fault
write_parts_faults s most o buffer =
    parts_faults s most o ++ (fault 13 0 (length buffer < length (order_octets s o)) ∷ [])
