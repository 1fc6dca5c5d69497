-- The writer takes circuit number, type, fixed octets, up to two variable contents (an unused one
-- is empty) and the optional run without its closing 0.
-- The order is the paper's: 9, 3, 10, 11, 12, 2, 13.
use Rattle.std.specs.Prelude.{ℕ, ◌/◌, ◌%◌, List, [], ◌∷◌, ltb}
use Rattle.octets.specs.Choice.{when◌then◌else◌}
use Rattle.octets.specs.Answer.{Answer, refused, ◌then◌}
use Rattle.octets.specs.Filled.{Done, done, room_for}
use Rattle.writing.specs.Write.{Order, order}
use Rattle.family.specs.Family.{family_write_in, family_compact_in}
use Rattle.isup.specs.Limits.{last_circuit}
use Rattle.isup.specs.Table.{isup}
use Rattle.isup.specs.Read.{circuit_of_lem}

-- R6. the circuit number: low eight bits first, then high four bits, the spare bits 0
abbrev pub head_of : ℕ → List ℕ
head_of circuit = circuit % 256 ∷ circuit / 256 ∷ []

-- R13. what is to be written of a message; ISUP has no third variable part
abbrev pub order_of : ℕ → ℕ → List ℕ → List ℕ → List ℕ → List ℕ → Order
order_of circuit kind fixed first second run = order (head_of circuit) kind fixed first second [] run

-- 9 for a circuit number above 4095; then as in every family: 3 for a type that
-- is not in the table, 10, 11, 12, 2
unfoldable pub write_in : ℕ → ℕ → List ℕ → List ℕ → List ℕ → List ℕ → Answer (ℕ × List ℕ)
write_in circuit kind fixed first second run =
    when ltb last_circuit circuit then refused 9 0
    else family_write_in isup (order_of circuit kind fixed first second run)

-- all that writing does: how many octets were written, or the refusal, 13
-- last; and the buffer afterwards
unfoldable pub write_of : ℕ → ℕ → List ℕ → List ℕ → List ℕ → List ℕ → List ℕ → Done ℕ
write_of circuit kind fixed first second run buffer =
    done buffer (write_in circuit kind fixed first second run then room_for buffer)

-- reading and writing again, with the circuit number that was read: the reader's numbers with their
-- octets, then the writer's
unfoldable pub compact_in : List ℕ → Answer (ℕ × List ℕ)
compact_in m = family_compact_in isup (head_of (circuit_of_lem m)) m

-- all that it does: how many octets were written, or the refusal, 13 last;
-- and the buffer afterwards
unfoldable pub compact_of : List ℕ → List ℕ → Done ℕ
compact_of m buffer = done buffer (compact_in m then room_for buffer)
