-- The reader: the circuit number, then the container from the type octet on, 3
-- octets to the longest in all.
use Rattle.std.specs.Prelude.{ℕ, ◌+◌, ◌*◌, ◌%◌, List}
use Rattle.octets.specs.Octet.{octet}
use Rattle.octets.specs.Answer.{Answer, accepted, ◌then◌}
use Rattle.parts.specs.declared.Parts.{Parts}
use Rattle.layout.specs.Container.{kind_at}
use Rattle.family.specs.Family.{read_in}
use Rattle.isup.specs.declared.Message.{Message}
use Rattle.isup.specs.Table.{isup}

-- R6. octets 0 and 1: low eight bits first, high four bits in the low half of
-- octet 1; the high half is ignored
abbrev pub circuit_of_lem : List ℕ → ℕ
circuit_of_lem m = octet m 0 + 256 * (octet m 1 % 16)

-- what is read of a message: circuit, type, and where its parts stand
abbrev pub message : List ℕ → Parts → Message
message m p = record { circuit = circuit_of_lem m; kind = kind_at m 2; parts = p }

-- a message that is well formed, or the first of the reader's numbers with
-- the octet that it is about
unfoldable pub read_of : List ℕ → Answer Message
read_of m = read_in isup m then λ p. accepted (message m p)
