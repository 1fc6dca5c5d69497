-- R25. What refuses contents to read, in the order of checking: 14, then 13.
use Rattle.std.specs.Prelude.{ℕ, ◌<◌, ◌≡◌, List, [], ◌∷◌, ◌++◌, length}
use Rattle.octets.specs.Faults.{Fault, fault}
use Rattle.number.specs.Contents.{odd_bit, last_half, count_in}

-- fewer than 2 octets
abbrev pub FewerThan2Octets : List ℕ → Type 0
FewerThan2Octets contents = length contents < 2

-- odd with no signals
abbrev pub OddWithNoSignals : List ℕ → Type 0
OddWithNoSignals contents = (odd_bit contents ≡ 1) × (length contents ≡ 2)

-- filler not 0
abbrev pub FillerNot0 : List ℕ → Type 0
FillerNot0 contents = (odd_bit contents ≡ 1) × (last_half contents ≡ 0 → ⊥)

-- more than 30 signals
abbrev pub MoreThan30 : ℕ → Type 0
MoreThan30 count = 30 < count

-- lent output too short for n octets
abbrev pub TooShort : List ℕ → ℕ → Type 0
TooShort buffer n = length buffer < n

-- R25. the faults of contents: 14
abbrev pub contents_faults : List ℕ → List Fault
contents_faults contents =
    fault 14 0 (FewerThan2Octets contents)
    ∷ fault 14 0 (OddWithNoSignals contents)
    ∷ fault 14 0 (FillerNot0 contents)
    ∷ fault 14 0 (MoreThan30 (count_in contents))
    ∷ []

-- the faults of reading: those of the contents, then 13 for a buffer too short
-- for the signals, one to an octet
abbrev pub read_faults : List ℕ → List ℕ → List Fault
read_faults contents buffer =
    contents_faults contents ++ (fault 13 0 (TooShort buffer (count_in contents)) ∷ [])
