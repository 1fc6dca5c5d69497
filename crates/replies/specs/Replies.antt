-- The octets of the answer: a message in the compact form, with the message's circuit in it.
use Rattle.std.specs.Prelude.{ℕ, ◌+◌, ◌/◌, ◌%◌, Bool, List, [], ◌∷◌, eqb, length}
use Rattle.octets.specs.Octet.{octet}
use Rattle.octets.specs.Choice.{when◌then◌else◌}
use Rattle.octets.specs.Tabulate.{tabulate}
use Rattle.octets.specs.Filled.{Done, done, room_for}
use Rattle.marks.specs.Marks.{status_octet_lem, locked_octet_lem}
use Rattle.rows.specs.declared.Act.{Act}
use Rattle.rows.specs.declared.Act.TheVariants.{Seize, Release, Reset, Block, Unblock, ResetGroup, BlockGroup, UnblockGroup, Query}
use Rattle.rows.specs.Rows.{local, circuit_state_lem}
use Rattle.isup.specs.Types.{RLC, BLO, UBL, BLA, UBA, CGBA, CGUA, GRA, CQR}
use Rattle.asks.specs.Asks.{width}

-- the circuit, low eight bits first, and the type, then the rest
abbrev pub headed : ℕ → ℕ → List ℕ → List ℕ
headed circuit type rest = (circuit % 256) ∷ (circuit / 256) ∷ type ∷ rest

-- n octets of an answer's status, from octet j on: the message's, with spare bits 0
abbrev pub status_from : ℕ → List ℕ → ℕ → ℕ → List ℕ
status_from range status = tabulate (status_octet_lem range status)

-- the status as the message gave it, r/8+1 octets: none given is all 0
abbrev pub status_given : ℕ → List ℕ → List ℕ
status_given range status = status_from range status 0 (width range)

-- n octets of GRA's status, from octet j on
abbrev pub locks_from : ℕ → List ℕ → ℕ → ℕ → List ℕ
locks_from range group = tabulate (locked_octet_lem range group)

-- GRA's status, r/8+1 octets: a 1 for each circuit of the group that is locally blocked
abbrev pub status_locked : ℕ → List ℕ → List ℕ
status_locked range group = locks_from range group 0 (width range)

-- range and status as the one variable parameter: its pointer, its length octet,
-- the range, then the r/8+1 status octets
abbrev pub range_and_status : ℕ → List ℕ → List ℕ
range_and_status range status = 1 ∷ (1 + width range) ∷ range ∷ status

-- the circuit states of n rows, from row i of the group on
abbrev pub states_from : List ℕ → ℕ → ℕ → List ℕ
states_from group = tabulate (λ i. circuit_state_lem (octet group i))

-- range and circuit states as the two variable parameters: their pointers, then the range after its
-- length octet, and r+1 states after theirs (an octet: r is 31 at the most where CQM asks)
abbrev pub range_and_states : ℕ → List ℕ → List ℕ
range_and_states range group = 2 ∷ 3 ∷ 1 ∷ range ∷ ((range + 1) % 256) ∷ states_from group 0 (range + 1)

-- what answers RSC: RLC, which has the pointer 0, no optional part; where the circuit is locally
-- blocked BLO stands before it
abbrev pub completion : ℕ → ℕ → List ℕ
completion circuit row = when eqb (local row) 1 then headed circuit BLO (headed circuit RLC (0 ∷ [])) else headed circuit RLC (0 ∷ [])

-- R46. what the desk has to send: BLO where its own block is set, UBL where it is cleared
abbrev pub notice_of : ℕ → Bool → List ℕ
notice_of circuit set = headed circuit (when set then BLO else UBL) []

-- what answers an act: nothing answers IAM; RLC has the pointer 0, no optional part; BLA and UBA
-- end with the type; GRA has range and status, by the rows; CGBA and CGUA have the indicator, then
-- range and status, by the message; CQR has range and circuit states
abbrev pub answer_to : Act → ℕ → ℕ → ℕ → List ℕ → List ℕ → List ℕ
answer_to Seize circuit range block group status = []
answer_to Release circuit range block group status = headed circuit RLC (0 ∷ [])
answer_to Reset circuit range block group status = completion circuit (octet group 0)
answer_to Block circuit range block group status = headed circuit BLA []
answer_to Unblock circuit range block group status = headed circuit UBA []
answer_to ResetGroup circuit range block group status =
    headed circuit GRA (range_and_status range (status_locked range group))
answer_to BlockGroup circuit range block group status =
    headed circuit CGBA (block ∷ range_and_status range (status_given range status))
answer_to UnblockGroup circuit range block group status =
    headed circuit CGUA (block ∷ range_and_status range (status_given range status))
answer_to Query circuit range block group status = headed circuit CQR (range_and_states range group)

-- an answer is sent: its octets fill the buffer's front and their count is
-- given; or 13, and the buffer stays
abbrev pub sent : List ℕ → List ℕ → Done ℕ
sent octets buffer = done buffer (room_for buffer (length octets, octets))

-- how many octets answer an act on circuits of range r, by the row of circuit m
unfoldable pub reply_length : Act → ℕ → ℕ → ℕ
reply_length Seize range row = 0
reply_length Release range row = 4
reply_length Reset range row = when eqb (local row) 1 then 7 else 4
reply_length Block range row = 3
reply_length Unblock range row = 3
reply_length ResetGroup range row = 6 + width range
reply_length BlockGroup range row = 7 + width range
reply_length UnblockGroup range row = 7 + width range
reply_length Query range row = 9 + range
