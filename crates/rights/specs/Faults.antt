-- What can stand against a message that asks something: each in the words of its rule.
use Rattle.std.specs.Prelude.{ℕ, ◌+◌, ◌≤◌, ◌<◌, ◌≡◌, List, [], ◌∷◌, ◌⊎◌, length}
use Rattle.octets.specs.Octet.{octet}
use Rattle.octets.specs.Among.{OneOf}
use Rattle.octets.specs.Faults.{Fault, fault}
use Rattle.isup.specs.declared.Message.{Message}
use Rattle.isup.specs.Types.{IAM, BLO, UBL, CGB, CGU, CQM}
use Rattle.rows.specs.Rows.{Legal}
use Rattle.asks.specs.declared.Ask.{Ask}
use Rattle.asks.specs.Asks.{block_kind, indicator_in}
use Rattle.asks.specs.Faults.{Reads, range_given}
use Rattle.rights.specs.Tables.{Tables}

-- R27. 16: a table not exactly 4096 octets
abbrev pub WrongTables : Tables → Type 0
WrongTables T =
    (length T.states ≡ 4096 → ⊥)
    ⊎ ((length T.owners ≡ 4096 → ⊥) ⊎ (length T.helpers ≡ 4096 → ⊥))

-- R29. the message names the circuit: it is one of m to m+r, for the range r that the message gives
abbrev pub NamedBy : List ℕ → Message → ℕ → Type 0
NamedBy m x c = (x.circuit ≤ c) × (c ≤ x.circuit + range_given m x)

-- R30. 19: neither right is held on a named circuit, or the sender is 0
abbrev pub Foreign : Tables → ℕ → List ℕ → Message → Type 0
Foreign T sender m x =
    ((c : ℕ)
    × NamedBy m x c
    × (octet T.owners c ≡ sender → ⊥)
    × (octet T.helpers c ≡ sender → ⊥))
    ⊎ (sender ≡ 0)

-- R31. what a helper may send: BLO, UBL, CQM, and CGB and CGU for maintenance
abbrev pub Helpable : List ℕ → Message → Type 0
Helpable m x =
    OneOf x.kind (BLO ∷ UBL ∷ CQM ∷ [])
    ⊎ (OneOf x.kind (CGB ∷ CGU ∷ []) × (block_kind (indicator_in m x) ≡ 0))

-- R31. 22: a named circuit is only helped, and the type is not in the list
abbrev pub OnlyHelped : Tables → ℕ → List ℕ → Message → Type 0
OnlyHelped T sender m x =
    (Helpable m x → ⊥) × ((c : ℕ) × NamedBy m x c × (octet T.owners c ≡ sender → ⊥))

-- R32. 20: a named circuit's state octet is not legal
abbrev pub Illegal : List ℕ → List ℕ → Message → Type 0
Illegal states m x = (c : ℕ) × NamedBy m x c × (Legal (octet states c) → ⊥)

-- R33. 21: IAM on a circuit that is busy or blocked, by the far side or by us
abbrev pub Taken : List ℕ → Message → Type 0
Taken states x = (x.kind ≡ IAM) × (octet states x.circuit ≡ 0 → ⊥)

-- R30 to R33, in their order: 19, 22, 20, 21
abbrev pub right_faults : Tables → ℕ → List ℕ → List Fault
right_faults T sender m =
    fault 19 0 (Reads m (Foreign T sender m))
    ∷ fault 22 0 (Reads m (OnlyHelped T sender m))
    ∷ fault 20 0 (Reads m (Illegal T.states m))
    ∷ fault 21 0 (Reads m (Taken T.states))
    ∷ []

-- what can stand against anything that is asked of whatever tables are lent: 16, and 18 where the
-- group passes circuit 4095, then those
abbrev pub permit_faults : Tables → ℕ → List ℕ → Ask → List Fault
permit_faults T sender m a =
    fault 16 0 (WrongTables T) ∷ fault 18 0 (4095 < a.circuit + a.range) ∷ right_faults T sender m
