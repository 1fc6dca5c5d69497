-- A run of optional parameters: name (not 0), length, contents, one after the other; in a message,
-- closed by a 0 where a name would stand.
use Rattle.std.specs.Prelude.{Option, Some, None}
use Rattle.std.specs.Prelude.{ℕ, zero, suc, ◌+◌, Bool, true, false, List, length, ltb, leb, eqb}
use Rattle.octets.specs.Octet.{octet}
use Rattle.octets.specs.Choice.{when◌then◌else◌}
use Rattle.runs.specs.declared.Step.{Step}
use Rattle.runs.specs.declared.Step.TheVariants.{Param, Close, End, Pass}
use Rattle.runs.specs.declared.Stop.{Stop}
use Rattle.runs.specs.declared.Stop.TheVariants.{Closed, Ended, Passed}

-- past an optional parameter whose name stands at i: the name, a length
-- octet, then that many octets
abbrev pub next : List ℕ → ℕ → ℕ
next m i = i + 2 + octet m (i + 1)

-- what stands at i, where a name would stand: nothing, the octets end there; the closing 0; a
-- parameter that passes the end; a parameter
unfoldable pub step_at_lem : List ℕ → ℕ → Step
step_at_lem m i =
    when leb (length m) i then End
    else when eqb (octet m i) 0 then Close
    else when ltb (length m) (next m i) then Pass
    else Param (record { name = octet m i; at = i + 2; len = octet m (i + 1) })

-- go on past a parameter, or stop at i
abbrev pub stepped : ℕ → (ℕ → Stop) → Step → Stop
stepped i on (Param f) = on (f.at + f.len)
stepped i on Close = Closed i
stepped i on End = Ended i
stepped i on Pass = Passed i

-- a run has fewer parameters than there are octets, which bounds the steps
unfoldable pub stops : ℕ → List ℕ → ℕ → Stop
stops zero m i = Ended i
stops (suc k) m i = stepped i (stops k m) (step_at_lem m i)

-- how the run that starts at i ends, and where
unfoldable pub stop_from : List ℕ → ℕ → Stop
stop_from m i = stops (suc (length m)) m i

-- a run that is lent by itself has no closing 0: it ends with its last parameter
abbrev pub ended : Stop → Bool
ended (Closed i) = false
ended (Ended i) = true
ended (Passed i) = false

-- whether the octets are such a run
unfoldable pub is_run_lem : List ℕ → Bool
is_run_lem r = ended (stop_from r 0)

-- the first parameter of a name: go on past the others
abbrev pub sought : ℕ → (ℕ → (Option (ℕ × ℕ))) → Step → Option (ℕ × ℕ)
sought name on (Param f) = when eqb f.name name then Some (f.at, f.len) else on (f.at + f.len)
sought name on Close = None
sought name on End = None
sought name on Pass = None

-- the search from i on, with a bound on the steps
unfoldable pub seeks : ℕ → List ℕ → ℕ → ℕ → Option (ℕ × ℕ)
seeks zero m name i = None
seeks (suc k) m name i = sought name (seeks k m name) (step_at_lem m i)

-- where the first parameter of that name has its contents, and how many
-- octets, among those from i on
unfoldable pub named_from : List ℕ → ℕ → ℕ → Option (ℕ × ℕ)
named_from m i name = seeks (suc (length m)) m name i
