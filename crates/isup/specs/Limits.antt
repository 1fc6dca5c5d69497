-- The limits of the family: the longest message, and the last circuit.
use Rattle.std.specs.Prelude.{ℕ}

-- a message has 268 octets at the most
abbrev pub longest : ℕ
longest = 268

-- a circuit number has twelve bits
abbrev pub last_circuit : ℕ
last_circuit = 4095
