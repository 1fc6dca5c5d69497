-- The writer takes code, type, fixed octets, up to two variable contents (an unused one is empty)
-- and the optional run without its closing 0.
-- The order is the paper's: 3, 10, 11, 12, 2, 13. Any number of 32 bits is
-- a code, so there is no 9.
use Rattle.std.specs.Prelude.{ℕ, List, []}
use Rattle.octets.specs.Octet.{octets}
use Rattle.octets.specs.Answer.{Answer, ◌then◌}
use Rattle.octets.specs.Filled.{Done, done, room_for}
use Rattle.writing.specs.Write.{Order, order}
use Rattle.family.specs.LowFirst.{code_octets}
use Rattle.family.specs.Family.{family_write_in, family_compact_in}
use Rattle.bicc.specs.Table.{bicc}

-- what is to be written of a message: the code's four octets, the least
-- significant first; BICC has no third variable part
abbrev pub call_order_of : ℕ → ℕ → List ℕ → List ℕ → List ℕ → List ℕ → Order
call_order_of code kind fixed first second run = order (code_octets 4 code) kind fixed first second [] run

-- as in every family: 3 for a type that is not in the table, 10, 11, 12, 2
unfoldable pub call_write_in : ℕ → ℕ → List ℕ → List ℕ → List ℕ → List ℕ → Answer (ℕ × List ℕ)
call_write_in code kind fixed first second run =
    family_write_in bicc (call_order_of code kind fixed first second run)

-- all that writing does: how many octets were written, or the refusal, 13
-- last; and the buffer afterwards
unfoldable pub call_write_of : ℕ → ℕ → List ℕ → List ℕ → List ℕ → List ℕ → List ℕ → Done ℕ
call_write_of code kind fixed first second run buffer =
    done buffer (call_write_in code kind fixed first second run then room_for buffer)

-- reading and writing again, with the message's own code: the reader's numbers
-- with their octets, then the writer's
unfoldable pub call_compact_in : List ℕ → Answer (ℕ × List ℕ)
call_compact_in m = family_compact_in bicc (octets m 0 4) m

-- all that it does: how many octets were written, or the refusal, 13 last;
-- and the buffer afterwards
unfoldable pub call_compact_of : List ℕ → List ℕ → Done ℕ
call_compact_of m buffer = done buffer (call_compact_in m then room_for buffer)
