-- The reader: the call instance code, then the container from the type octet
-- on, 5 octets to the longest in all.
use Rattle.std.specs.Prelude.{ℕ, List}
use Rattle.octets.specs.Octet.{octets}
use Rattle.octets.specs.Answer.{Answer, accepted, ◌then◌}
use Rattle.parts.specs.declared.Parts.{Parts}
use Rattle.layout.specs.Container.{kind_at}
use Rattle.family.specs.LowFirst.{code_in}
use Rattle.family.specs.Family.{read_in}
use Rattle.bicc.specs.declared.Message.{Message}
use Rattle.bicc.specs.Table.{bicc}

-- R49. octets 0 to 3, the least significant first
abbrev pub call_code_of : List ℕ → ℕ
call_code_of m = code_in (octets m 0 4)

-- what is read of a message: code, type, and where its parts stand
abbrev pub call_message : List ℕ → Parts → Message
call_message m p = record { code = call_code_of m; kind = kind_at m 4; parts = p }

-- a message that is well formed, or the first of the reader's numbers with
-- the octet that it is about
unfoldable pub call_read_of : List ℕ → Answer Message
call_read_of m = read_in bicc m then λ p. accepted (call_message m p)
