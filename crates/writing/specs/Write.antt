-- Writing the compact form: the header, the type, the fixed octets, the pointers, the variable
-- parameters in pointer order right after them, then the optional part.
-- The order is the paper's: 10, 11, 12, 2, 13.
use Rattle.std.specs.Prelude.{ℕ, ◌+◌, ◌≤◌, ◌≡◌, Bool, true, false, List, [], ◌∷◌, ◌++◌, map, length, take, ltb}
use Rattle.octets.specs.Choice.{when◌then◌else◌}
use Rattle.octets.specs.Answer.{Answer, accepted, refused, ◌then◌}
use Rattle.octets.specs.Filled.{Done, done, room_for}
use Rattle.layout.specs.declared.Shape.{Shape}
use Rattle.runs.specs.Run.{is_run_lem}
use Rattle.layout.specs.Container.{bit}
use Rattle.measuring.specs.declared.Lengths.{Lengths}
use Rattle.measuring.specs.Measure.{unfit_of}

-- what is to be written: an unused content is empty, and the run has no closing 0
pub record Order : Type 0 where
  pub head : List ℕ
  pub kind : ℕ
  pub fixed : List ℕ
  pub first : List ℕ
  pub second : List ℕ
  pub third : List ℕ
  pub run : List ℕ

-- the order with these parts
abbrev pub order : List ℕ → ℕ → List ℕ → List ℕ → List ℕ → List ℕ → List ℕ → Order
order h k f a b c r =
    record { head = h; kind = k; fixed = f; first = a; second = b; third = c; run = r }

-- how many octets there are of these, beside the type and the fixed octets
abbrev pub lengths_of : Order → Lengths
lengths_of o = record {
  head = length o.head;
  first = length o.first;
  second = length o.second;
  third = length o.third;
  run = length o.run;
}

-- the contents of the variable parameters that the shape has, in pointer order
abbrev pub contents_in : Shape → Order → List (List ℕ)
contents_in s o = take s.vars (o.first ∷ o.second ∷ o.third ∷ [])

-- the pointers to these contents, where the first parameter starts g octets past the first pointer.
-- From one pointer to the next a start moves on by a length octet and the contents, less the octet
-- that the pointer itself moves on
unfoldable pub pointers : ℕ → List (List ℕ) → List ℕ
pointers g [] = []
pointers g (c ∷ cs) = g ∷ pointers (g + length c) cs

-- how far past the next pointer the next part starts, after these
unfoldable pub ahead : ℕ → List (List ℕ) → ℕ
ahead g [] = g
ahead g (c ∷ cs) = ahead (g + length c) cs

-- a variable parameter is a length octet, then that many octets
unfoldable pub variables : List (List ℕ) → List ℕ
variables [] = []
variables (c ∷ cs) = (length c ∷ c) ++ variables cs

-- the optional pointer: 0 if there are no optional parameters
unfoldable pub run_pointer : Bool → ℕ → List ℕ → List ℕ
run_pointer false g r = []
run_pointer true g [] = 0 ∷ []
run_pointer true g (x ∷ xs) = g ∷ []

-- the optional part: the run and the 0 that closes it, or nothing
unfoldable pub closed_run_lem : List ℕ → List ℕ
closed_run_lem [] = []
closed_run_lem (x ∷ xs) = (x ∷ xs) ++ (0 ∷ [])

-- the first parameter starts right after the pointers
abbrev pub gap_of : Bool → List (List ℕ) → ℕ
gap_of o vs = length vs + bit o

-- the compact form
unfoldable pub form_of : Bool → List ℕ → ℕ → List ℕ → List (List ℕ) → List ℕ → List ℕ
form_of o head kind fixed vs r =
    head ++ ((kind ∷ fixed)
    ++ (pointers (gap_of o vs) vs
    ++ (run_pointer o (ahead (gap_of o vs) vs) r
    ++ (variables vs ++ closed_run_lem r))))

-- the octets of an order: its compact form, of the shape's parts
abbrev pub order_octets : Shape → Order → List ℕ
order_octets s o = form_of s.opt o.head o.kind o.fixed (contents_in s o) o.run

-- the lengths and the pointers that are written
unfoldable pub marks : Bool → List (List ℕ) → List ℕ → List ℕ
marks o vs r = map length vs ++ (pointers (gap_of o vs) vs ++ run_pointer o (ahead (gap_of o vs) vs) r)

-- 12: one of them exceeds 255
unfoldable pub exceeds : List ℕ → Bool
exceeds [] = false
exceeds (x ∷ xs) = when ltb 255 x then true else exceeds xs

-- the octets that are written, or 10, 11, 12, or 2 where they are more than the longest message has
unfoldable pub written_of : Shape → ℕ → Order → Answer (ℕ × List ℕ)
written_of s most o =
    when unfit_of s o.fixed o.first o.second o.third o.run then refused 10 0
    else when is_run_lem o.run then
    (when exceeds (marks s.opt (contents_in s o) o.run) then refused 12 0
    else when ltb most (length (order_octets s o)) then refused 2 0
    else accepted (length (order_octets s o), order_octets s o))
    else refused 11 0

-- all that writing does: how many octets were written, or the refusal, 13
-- last; and the buffer afterwards
unfoldable pub write_parts_of : Shape → ℕ → Order → List ℕ → Done ℕ
write_parts_of s most o buffer = done buffer (written_of s most o then room_for buffer)

-- what fits the shape, which has three variable parts at the most: the fixed octets have their
-- count, and a part that the type lacks is empty
pub record Fits (s : Shape) (o : Order) : Type 0 where
  pub few : s.vars ≤ 3
  pub fixed : length o.fixed ≡ s.fixed
  pub first : s.vars ≤ 0 → o.first ≡ []
  pub second : s.vars ≤ 1 → o.second ≡ []
  pub third : s.vars ≤ 2 → o.third ≡ []
  pub run : s.opt ≡ false → o.run ≡ []
