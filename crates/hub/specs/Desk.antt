-- The desk call: our own block on a circuit, set or cleared, with the BLO or UBL to send. Order:
-- 16, 9, 20, 13; all of them before anything is stored.
use Rattle.std.specs.Prelude.{ℕ, ◌<◌, ◌≡◌, Bool, List, [], ◌∷◌, ltb, eqb, length}
use Rattle.octets.specs.Octet.{octet}
use Rattle.octets.specs.Choice.{when◌then◌else◌}
use Rattle.octets.specs.Answer.{Answer, accepted, refused}
use Rattle.octets.specs.Applied.{applied}
use Rattle.octets.specs.Faults.{Fault, fault}
use Rattle.octets.specs.Filled.{filled}
use Rattle.rows.specs.Rows.{is_legal, Legal, local_row}
use Rattle.replies.specs.Replies.{notice_of}
use Rattle.hub.specs.Acts.{After, after}

-- the circuit, or the number: 16 where there are not 4096 states, 9 for a circuit above 4095, 20
-- where its row is not legal, 13 where there is no room for three octets
unfoldable pub desk_grant : List ℕ → ℕ → ℕ → Answer ℕ
desk_grant states circuit room =
    when eqb (length states) 4096 then
    (when ltb 4095 circuit then refused 9 0
    else when is_legal (octet states circuit)
    then (when ltb room 3 then refused 13 0 else accepted circuit)
    else refused 20 0)
    else refused 16 0

-- the states where the 8 of a circuit is set or cleared
abbrev pub rows_blocked : Bool → ℕ → List ℕ → List ℕ
rows_blocked set circuit states = applied (λ c row. local_row set row) circuit 1 states

-- what is granted is carried out: BLO or UBL fills the buffer's front and its count is given, and
-- the circuit's 8 is set or cleared. A refusal keeps both
abbrev pub desk_carried : List ℕ → Bool → List ℕ → Answer ℕ → After
desk_carried states set buffer (accepted circuit) =
    after (accepted (length (notice_of circuit set))) (rows_blocked set circuit states)
    (filled (notice_of circuit set) buffer)
desk_carried states set buffer (refused n at) = after (refused n at) states buffer

-- a desk call
unfoldable pub desk_of : List ℕ → ℕ → Bool → List ℕ → After
desk_of states circuit set buffer =
    desk_carried states set buffer (desk_grant states circuit (length buffer))

-- R46. what a desk call may be refused for, in the paper's order
abbrev pub desk_faults : List ℕ → ℕ → ℕ → List Fault
desk_faults states circuit room =
    fault 16 0 (length states ≡ 4096 → ⊥)
    ∷ fault 9 0 (4095 < circuit)
    ∷ fault 20 0 (Legal (octet states circuit) → ⊥)
    ∷ fault 13 0 (room < 3)
    ∷ []
