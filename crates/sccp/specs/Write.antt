-- The writer takes type, fixed octets, up to three variable contents (an unused one is empty) and
-- the optional run without its closing 0.
-- The order is the paper's: 3, 10, 11, 12, 2, 13. There is no circuit, so there is no 9.
use Rattle.std.specs.Prelude.{ℕ, List, []}
use Rattle.octets.specs.Answer.{Answer, ◌then◌}
use Rattle.octets.specs.Filled.{Done, done, room_for}
use Rattle.writing.specs.Write.{Order, order}
use Rattle.family.specs.Family.{family_write_in, family_compact_in}
use Rattle.sccp.specs.Table.{sccp}

-- what is to be written of a message: nothing stands before the type
abbrev pub sccp_order_of : ℕ → List ℕ → List ℕ → List ℕ → List ℕ → List ℕ → Order
sccp_order_of kind fixed first second third run = order [] kind fixed first second third run

-- as in every family: 3 for a type that is not in the table, 10, 11, 12, 2
unfoldable pub sccp_write_in : ℕ → List ℕ → List ℕ → List ℕ → List ℕ → List ℕ → Answer (ℕ × List ℕ)
sccp_write_in kind fixed first second third run =
    family_write_in sccp (sccp_order_of kind fixed first second third run)

-- all that writing does: how many octets were written, or the refusal, 13
-- last; and the buffer afterwards
unfoldable pub sccp_write_of : ℕ → List ℕ → List ℕ → List ℕ → List ℕ → List ℕ → List ℕ → Done ℕ
sccp_write_of kind fixed first second third run buffer =
    done buffer (sccp_write_in kind fixed first second third run then room_for buffer)

-- reading and writing again: the reader's numbers with their octets, then the writer's
unfoldable pub sccp_compact_in : List ℕ → Answer (ℕ × List ℕ)
sccp_compact_in m = family_compact_in sccp [] m

-- all that it does: how many octets were written, or the refusal, 13 last;
-- and the buffer afterwards
unfoldable pub sccp_compact_of : List ℕ → List ℕ → Done ℕ
sccp_compact_of m buffer = done buffer (sccp_compact_in m then room_for buffer)
