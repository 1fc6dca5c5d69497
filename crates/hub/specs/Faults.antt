-- R34. The hub's faults, each in the words of its rule, in the order of checking: 16, the reader's,
-- 17, 14, 18, 19, 22, 20, 21, 13.
use Rattle.std.specs.Prelude.{ℕ, ◌+◌, ◌<◌, List, [], ◌∷◌, ◌++◌, eqb}
use Rattle.octets.specs.Octet.{octet}
use Rattle.octets.specs.Choice.{when◌then◌else◌}
use Rattle.octets.specs.Among.{among}
use Rattle.octets.specs.Faults.{Fault, fault}
use Rattle.isup.specs.declared.Message.{Message}
use Rattle.rows.specs.Rows.{local}
use Rattle.isup.specs.Types.{IAM, REL, RSC, BLO, UBL, GRS, CQM}
use Rattle.asks.specs.Asks.{width}
use Rattle.asks.specs.Faults.{Reads, range_given, ask_faults}
use Rattle.rights.specs.Tables.{Tables}
use Rattle.rights.specs.Faults.{WrongTables, right_faults}

-- how many octets answer a type with range r, where circuit m has that row: none answer IAM; RLC
-- has 4, and 3 more for BLO before it where RSC finds the circuit locally blocked; BLA and UBA have
-- 3; GRA has 6 before its status, CGBA and CGUA 7; CQR has 9+r
abbrev pub answer_size : ℕ → ℕ → ℕ → ℕ
answer_size kind r row =
    when eqb kind IAM then 0
    else when eqb kind REL then 4
    else when eqb kind RSC then (when eqb (local row) 1 then 7 else 4)
    else when among kind (BLO ∷ UBL ∷ []) then 3
    else when eqb kind GRS then 6 + width r
    else when eqb kind CQM then 9 + r
    else 7 + width r

-- R34. 13: lent output too short
abbrev pub NoRoom : List ℕ → List ℕ → ℕ → Message → Type 0
NoRoom states m room x = room < answer_size x.kind (range_given m x) (octet states x.circuit)

-- what a call may be refused for, once the tables have their lengths
abbrev pub past_tables : Tables → ℕ → List ℕ → ℕ → List Fault
past_tables T sender m room =
    ask_faults m
    ++ (right_faults T sender m ++ (fault 13 0 (Reads m (NoRoom T.states m room)) ∷ []))

-- R34. what a call may be refused for
abbrev pub act_faults : Tables → ℕ → List ℕ → ℕ → List Fault
act_faults T sender m room = fault 16 0 (WrongTables T) ∷ past_tables T sender m room
