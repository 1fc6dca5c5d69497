-- Which circuits a call names, at rows and totals as they are: a call that is refused before 19 is
-- reached, 16 among those, names none.
use Rattle.std.specs.Prelude.{ℕ, ◌+◌, ◌≤◌, ◌≡◌, Bool, true, false, List, eqb, ltb, length}
use Rattle.octets.specs.Choice.{when◌then◌else◌}
use Rattle.octets.specs.Answer.{Answer, accepted, refused}
use Rattle.asks.specs.declared.Ask.{Ask}
use Rattle.asks.specs.Asks.{ask_of}
use Rattle.rights.specs.Names.{Names}
use Rattle.hub.specs.Arrival.{Event, heard, ours}
use Rattle.board.specs.Arrival.{Standings}

-- R74. a message names the circuits of what it asks, where every table has its length; a desk call
-- its circuit, up to 4095, where states and totals have theirs
abbrev pub NamesAt : List ℕ → List ℕ → Standings → Event → ℕ → Type 0
NamesAt owners helpers s (heard sender m) i =
    (length s.rows ≡ 4096) × (length owners ≡ 4096) × (length helpers ≡ 4096) × (length s.totals ≡ 64) × Names m i
NamesAt owners helpers s (ours circuit set) i =
    (length s.rows ≡ 4096) × (length s.totals ≡ 64) × (i ≡ circuit) × (circuit ≤ 4095)

-- whether what is asked names the circuit
abbrev pub is_named : Answer Ask → ℕ → Bool
is_named (accepted a) i = when ltb i a.circuit then false else (when ltb (a.circuit + a.range) i then false else true)
is_named (refused n at) i = false

-- the same of a call, by the call and the tables that do not change: where owners or helpers have
-- another length a message names none
abbrev pub call_names : List ℕ → List ℕ → Event → ℕ → Bool
call_names owners helpers (heard sender m) i =
    when eqb (length owners) 4096
    then (when eqb (length helpers) 4096 then is_named (ask_of m) i else false)
    else false
call_names owners helpers (ours circuit set) i = when ltb 4095 circuit then false else eqb i circuit
