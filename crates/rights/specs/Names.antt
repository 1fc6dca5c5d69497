-- Which circuits a message names, and what it is for a sender to have a right on a circuit.
use Rattle.std.specs.Prelude.{ℕ, ◌+◌, ◌≤◌, ◌≡◌, List, ◌⊎◌}
use Rattle.octets.specs.Octet.{octet}
use Rattle.octets.specs.Answer.{accepted}
use Rattle.asks.specs.declared.Ask.{Ask}
use Rattle.rights.specs.Tables.{Tables}
use Rattle.asks.specs.Asks.{ask_of}

-- the table names the sender for the circuit
abbrev pub Mine : List ℕ → ℕ → ℕ → Type 0
Mine table sender circuit = (octet table circuit ≡ sender) × (sender ≡ 0 → ⊥)

-- the sender has a right on the circuit: it owns it or helps it
abbrev pub HasRight : Tables → ℕ → ℕ → Type 0
HasRight T sender circuit = Mine T.owners sender circuit ⊎ Mine T.helpers sender circuit

-- R29. all of m to m+r are named, marked or not
abbrev pub Named : Ask → ℕ → Type 0
Named a circuit = (a.circuit ≤ circuit) × (circuit ≤ a.circuit + a.range)

-- a message names the circuits of what it asks; one that asks nothing, because it is refused before
-- 19 is reached, names none
abbrev pub Names : List ℕ → ℕ → Type 0
Names m circuit = (a : Ask) × (ask_of m ≡ accepted a) × Named a circuit
