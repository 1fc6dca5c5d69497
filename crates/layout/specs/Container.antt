-- The container of a message, from its type octet on: where each part stands, or which number is
-- given back, with the octet that it is about.
-- The order is the paper's: 1, 2, 3, 4; each variable pointer in turn 5 then 6; the optional
-- pointer 5 then 7; then 8.
use Rattle.std.specs.Prelude.{Option, Some, None}
use Rattle.std.specs.Prelude.{ℕ, ◌+◌, ◌-◌, Bool, true, false, List, length, ltb, leb, eqb}
use Rattle.octets.specs.Octet.{octet}
use Rattle.octets.specs.Choice.{when◌then◌else◌}
use Rattle.octets.specs.Answer.{Answer, accepted, refused, ◌then◌}
use Rattle.parts.specs.declared.Span.{Span}
use Rattle.layout.specs.declared.Shape.{Shape}
use Rattle.parts.specs.declared.Parts.{Parts}
use Rattle.parts.specs.Spans.{span}
use Rattle.parts.specs.Overlap.{judged}
use Rattle.runs.specs.declared.Stop.{Stop}
use Rattle.runs.specs.declared.Stop.TheVariants.{Closed, Ended, Passed}
use Rattle.runs.specs.Run.{stop_from}

-- a part that is not there
abbrev pub nothing : Span
nothing = span 0 0

-- a pointer at octet p with value v points at p+v
abbrev pub target : List ℕ → ℕ → ℕ
target m p = p + octet m p

-- no target may lie before e, where the pointers end, or at the message's
-- length or beyond: 5, about the pointer
abbrev pub pointed : List ℕ → ℕ → ℕ → Answer ℕ
pointed m p e =
    when ltb (target m p) e then refused 5 p
    else when leb (length m) (target m p) then refused 5 p
    else accepted (target m p)

-- past a variable parameter that starts at t: a length octet, then that many octets
abbrev pub past : List ℕ → ℕ → ℕ
past m t = t + 1 + octet m t

-- the variable parameter that starts at t. 6 where its contents pass the
-- message's length, about the length octet
abbrev pub variable_from_lem : List ℕ → ℕ → Answer Span
variable_from_lem m t = when ltb (length m) (past m t) then refused 6 t else accepted (span t (past m t))

-- the variable parameter whose pointer stands at p; a pointer of 0 is no exception
unfoldable pub variable_at_lem : List ℕ → ℕ → ℕ → Answer Span
variable_at_lem m p e = pointed m p e then variable_from_lem m

-- the run of a message goes through the 0 that closes it. 7 where it passes the end or is not
-- closed, about the name octet of the parameter that passes, or the octet where a name was due
abbrev pub closed : ℕ → Stop → Answer Span
closed from (Closed i) = accepted (span from (i + 1))
closed from (Ended i) = refused 7 i
closed from (Passed i) = refused 7 i

-- the optional part that starts at t
unfoldable pub run_from : List ℕ → ℕ → Answer Span
run_from m t = closed t (stop_from m t)

-- the optional part whose pointer stands at p; the pointer may be 0: nothing there
unfoldable pub optional_at_lem : List ℕ → ℕ → ℕ → Answer Span
optional_at_lem m p e = when eqb (octet m p) 0 then accepted nothing else (pointed m p e then run_from m)

-- how many pointers the optional part has: one if there is such a part
abbrev pub bit : Bool → ℕ
bit true = 1
bit false = 0

-- the first pointer's octet: past the header, the type and the fixed part
abbrev pub start_of : ℕ → Shape → ℕ
start_of w s = w + 1 + s.fixed

-- where the pointers end: one for each variable parameter, then, if there is
-- an optional part, one to it
abbrev pub end_of : ℕ → Shape → ℕ
end_of w s = start_of w s + s.vars + bit s.opt

-- the k-th of n variable parameters, where the first pointer stands at `at`
unfoldable pub variable_slot_lem : List ℕ → ℕ → ℕ → ℕ → ℕ → Answer Span
variable_slot_lem m at k n e = when ltb k n then variable_at_lem m (at + k) e else accepted nothing

-- the optional part, whose pointer is the last of the pointers
unfoldable pub optional_slot_lem : List ℕ → Bool → ℕ → Answer Span
optional_slot_lem m o e = when o then optional_at_lem m (e - 1) e else accepted nothing

-- a message of that shape, its type octet at w. 4 where the fixed part or the
-- pointers are cut off, about the message's end
unfoldable pub container_of : List ℕ → ℕ → Shape → Answer Parts
container_of m w s =
    when ltb (length m) (end_of w s) then refused 4 (length m)
    else (variable_slot_lem m (start_of w s) 0 s.vars (end_of w s) then λ a.
    variable_slot_lem m (start_of w s) 1 s.vars (end_of w s) then λ b.
    variable_slot_lem m (start_of w s) 2 s.vars (end_of w s) then λ c.
    optional_slot_lem m s.opt (end_of w s) then λ d.
    judged (span (w + 1) (start_of w s)) a b c d)

-- the type octet stands at the header's width
abbrev pub kind_at : List ℕ → ℕ → ℕ
kind_at m w = octet m w

-- a row has three variable parameters at the most: 3 for another, about the type octet
abbrev pub shaped_of : List ℕ → ℕ → Shape → Answer Parts
shaped_of m w s = when ltb 3 s.vars then refused 3 w else container_of m w s

-- 3 for a type that is not in the family's table, about the type octet
abbrev pub of_row : List ℕ → ℕ → Option Shape → Answer Parts
of_row m w (Some s) = shaped_of m w s
of_row m w None = refused 3 w

-- a whole message of a family: 1 where it ends before the type octet, 2 where
-- it is longer than the longest
unfoldable pub parts_of : List ℕ → ℕ → ℕ → Option Shape → Answer Parts
parts_of m w most r =
    when leb (length m) w then refused 1 0
    else when ltb most (length m) then refused 2 0
    else of_row m w r
