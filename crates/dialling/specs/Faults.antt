-- R25. What refuses values and signals to write, in the order of checking: 14, then 13.
use Rattle.std.specs.Prelude.{ℕ, ◌+◌, ◌/◌, ◌<◌, List, [], ◌∷◌, ◌++◌, get_or, length}
use Rattle.octets.specs.Faults.{Fault, fault}
use Rattle.number.specs.Faults.{MoreThan30, TooShort}

-- a signal above 15
abbrev pub SignalAbove15 : List ℕ → Type 0
SignalAbove15 signals = (k : ℕ) × (k < length signals) × (15 < get_or signals k 0)

-- R25. the faults of values and signals: 14
abbrev pub values_faults : ℕ → ℕ → ℕ → List ℕ → List Fault
values_faults nature plan internal signals =
    fault 14 0 (127 < nature)
    ∷ fault 14 0 (7 < plan)
    ∷ fault 14 0 (1 < internal)
    ∷ fault 14 0 (MoreThan30 (length signals))
    ∷ fault 14 0 (SignalAbove15 signals)
    ∷ []

-- the faults of writing: those of the values and signals, then 13 for a buffer too short for two
-- octets, one for each two signals, and one for a signal that is left over
abbrev pub number_write_faults : ℕ → ℕ → ℕ → List ℕ → List ℕ → List Fault
number_write_faults nature plan internal signals buffer =
    values_faults nature plan internal signals
    ++ (fault 13 0 (TooShort buffer (2 + (length signals + 1) / 2)) ∷ [])
