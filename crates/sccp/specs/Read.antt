-- The reader: the container from the type octet on, 1 octet to the longest in all.
use Rattle.std.specs.Prelude.{ℕ, List}
use Rattle.octets.specs.Answer.{Answer, accepted, ◌then◌}
use Rattle.parts.specs.declared.Parts.{Parts}
use Rattle.layout.specs.Container.{kind_at}
use Rattle.family.specs.Family.{read_in}
use Rattle.sccp.specs.declared.Message.{Message}
use Rattle.sccp.specs.Table.{sccp}

-- what is read of a message: type, and where its parts stand
abbrev pub sccp_message : List ℕ → Parts → Message
sccp_message m p = record { kind = kind_at m 0; parts = p }

-- a message that is well formed, or the first of the reader's numbers with
-- the octet that it is about
unfoldable pub sccp_read_of : List ℕ → Answer Message
sccp_read_of m = read_in sccp m then λ p. accepted (sccp_message m p)
