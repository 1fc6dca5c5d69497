-- What a call can be refused for if the totals are lent too: the hub's numbers, and 16 also if
-- there are not 64 totals.
use Rattle.std.specs.Prelude.{ℕ, ◌<◌, ◌≡◌, List, [], ◌∷◌, ◌⊎◌, length}
use Rattle.octets.specs.Octet.{octet}
use Rattle.octets.specs.Faults.{Fault, fault}
use Rattle.rows.specs.Rows.{Legal}
use Rattle.rights.specs.Tables.{Tables}
use Rattle.rights.specs.Faults.{WrongTables}
use Rattle.hub.specs.Faults.{past_tables}

-- 16: not 64 totals
abbrev pub WrongTotals : List ℕ → Type 0
WrongTotals totals = length totals ≡ 64 → ⊥

-- R56. of a message: 16, the reader's, 17, 14, 18, 19, 22, 20, 21, 13
abbrev pub board_faults : Tables → List ℕ → ℕ → List ℕ → ℕ → List Fault
board_faults T totals sender m room =
    fault 16 0 (WrongTables T ⊎ WrongTotals totals) ∷ past_tables T sender m room

-- of a desk call: 16, 9, 20, 13
abbrev pub desk_board_faults : List ℕ → List ℕ → ℕ → ℕ → List Fault
desk_board_faults states totals circuit room =
    fault 16 0 ((length states ≡ 4096 → ⊥) ⊎ WrongTotals totals)
    ∷ fault 9 0 (4095 < circuit)
    ∷ fault 20 0 (Legal (octet states circuit) → ⊥)
    ∷ fault 13 0 (room < 3)
    ∷ []
