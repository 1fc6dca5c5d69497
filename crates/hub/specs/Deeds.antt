-- What a call does, with the circuits that its message names. Crates that keep
-- more than the rows, such as totals, use it.
use Rattle.std.specs.Prelude.{ℕ, ◌+◌, List}
use Rattle.octets.specs.Answer.{Answer, accepted, refused}
use Rattle.asks.specs.declared.Ask.{Ask}
use Rattle.asks.specs.Asks.{ask_of}
use Rattle.hub.specs.declared.Handled.{Handled}
use Rattle.rights.specs.Tables.{Tables}
use Rattle.hub.specs.Acts.{After, act_of}

-- how many octets the answer has, and the first and the last circuit that is named
abbrev pub deed : ℕ → ℕ → ℕ → Handled
deed count first last = record { count = count; first = first; last = last }

-- the deed or the refusal, and what the states and the answer buffer hold afterwards
pub record Handling : Type 0 where
  pub answer : Answer Handled
  pub states : List ℕ
  pub buffer : List ℕ

-- the three together
abbrev pub handling : Answer Handled → List ℕ → List ℕ → Handling
handling answer states buffer = record { answer = answer; states = states; buffer = buffer }

-- an accepted answer with the circuits m to m+r of what is asked
abbrev pub with_circuits : Answer Ask → Answer ℕ → Answer Handled
with_circuits (accepted a) (accepted n) = accepted (deed n a.circuit (a.circuit + a.range))
with_circuits (refused k place) (accepted n) = accepted (deed n 0 0)
with_circuits asked (refused n at) = refused n at

-- a call with the circuits that its message names
abbrev pub handling_of : List ℕ → After → Handling
handling_of m x = handling (with_circuits (ask_of m) x.answer) x.states x.buffer

-- of what the hub does
unfoldable pub handled_of : Tables → ℕ → List ℕ → List ℕ → Handling
handled_of T sender m buffer = handling_of m (act_of T sender m buffer)

-- the same without the circuits
abbrev pub unspanned : Answer Handled → Answer ℕ
unspanned (accepted d) = accepted d.count
unspanned (refused n at) = refused n at
