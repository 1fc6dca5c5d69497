-- Whether what is to be written fits the shape; and the compact form in plain numbers: what its
-- pointers say, and how many octets there are.
-- That these say the same as the octets themselves is proved in crate writing, proofs/Plain.antt.
use Rattle.std.specs.Prelude.{ℕ, ◌+◌, Bool, true, false, List, length, ltb, eqb}
use Rattle.octets.specs.Choice.{when◌then◌else◌}
use Rattle.octets.specs.Answer.{Answer, accepted, refused}
use Rattle.layout.specs.declared.Shape.{Shape}
use Rattle.layout.specs.Container.{bit}
use Rattle.measuring.specs.declared.Lengths.{Lengths}
use Rattle.measuring.specs.declared.Pointers.{Pointers}
use Rattle.measuring.specs.declared.Frame.{Frame}

-- contents for the k-th variable part of a type that has n
abbrev pub lacks_of : ℕ → ℕ → List ℕ → Bool
lacks_of n k c = when ltb k n then false else ltb 0 (length c)

-- 10: a shape of more than three variable parts, fixed octets of wrong count, or contents for a
-- part that the type lacks
unfoldable pub unfit_of : Shape → List ℕ → List ℕ → List ℕ → List ℕ → List ℕ → Bool
unfit_of s fixed a b c r =
    when ltb 3 s.vars then true
    else when eqb (length fixed) s.fixed then
    (when lacks_of s.vars 0 a then true
    else when lacks_of s.vars 1 b then true
    else when lacks_of s.vars 2 c then true
    else when s.opt then false else ltb 0 (length r))
    else true

-- how many variable parts are written: three at the most
abbrev pub count_of : ℕ → ℕ
count_of n = when ltb n 3 then n else 3

-- from the first pointer to the first parameter: as many octets as there are pointers
abbrev pub gap : Shape → ℕ
gap s = count_of s.vars + bit s.opt

-- what the optional pointer says, before a run of r octets that starts g octets past it: 0 if there
-- are no optional parameters
abbrev pub reach : ℕ → ℕ → ℕ
reach r g = when ltb 0 r then g else 0

-- what the pointers say: each reaches over the pointers from itself on and
-- over the parameters before its own
abbrev pub pointers_of_lem : Shape → Lengths → Pointers
pointers_of_lem s l = record {
  first = gap s;
  second = gap s + l.first;
  third = gap s + l.first + l.second;
  last = reach l.run (gap s + l.first + l.second + l.third);
}

-- contents of more than 255 octets
unfoldable pub too_long_lem : Lengths → Bool
too_long_lem l =
    when ltb 255 l.first then true
    else when ltb 255 l.second then true
    else ltb 255 l.third

-- a pointer that is wanted, above 255
abbrev pub beyond_of : Bool → ℕ → Bool
beyond_of wanted p = when wanted then ltb 255 p else false

-- a second, third or optional pointer above 255, of n variable parts. The first is 4 at the most
unfoldable pub too_far_lem : ℕ → Pointers → Bool
too_far_lem n p =
    when beyond_of (ltb 1 n) p.second then true
    else when beyond_of (ltb 2 n) p.third then true
    else ltb 255 p.last

-- 12: a length or a pointer above 255
unfoldable pub unheld : Shape → Lengths → Bool
unheld s l = when too_long_lem l then true else too_far_lem s.vars (pointers_of_lem s l)

-- the octets of the optional part, with its closing 0
abbrev pub run_size_lem : ℕ → ℕ
run_size_lem r = when ltb 0 r then r + 1 else 0

-- the header, the type and the fixed octets; the pointers; the variable parameters, each with its
-- length octet; the optional part
abbrev pub size_of : Shape → Lengths → ℕ
size_of s l =
    l.head + 1 + s.fixed + gap s + (count_of s.vars + l.first + l.second + l.third)
    + run_size_lem l.run

-- the compact form, measured
abbrev pub frame_of : Shape → Lengths → Frame
frame_of s l = record { pointers = pointers_of_lem s l; size = size_of s l }

-- the frame; or 12, or 2 where there are more octets than the longest message has
unfoldable pub measure_of : Shape → ℕ → Lengths → Answer Frame
measure_of s most l =
    when unheld s l then refused 12 0
    else when ltb most (size_of s l) then refused 2 0
    else accepted (frame_of s l)
