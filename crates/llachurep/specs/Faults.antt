-- The faults of reading and finding at the boundary, in the paper's order, 13 last.
use Rattle.std.specs.Prelude.{ℕ, ◌<◌, List, [], ◌∷◌, ◌++◌, length}
use Rattle.octets.specs.Faults.{Fault, fault}
use Rattle.isup.specs.Faults.{reader_faults}
use Rattle.finding.specs.Faults.{find_faults}

-- the reader's, then 13 where there is no room for ten numbers
abbrev pub read_gives_faults : List ℕ → List ℕ → List Fault
read_gives_faults m parts = reader_faults m ++ (fault 13 0 (length parts < 10) ∷ [])

-- the finding's, then 13 where there is no room for a start and a length
abbrev pub find_gives_faults : List ℕ → List ℕ → ℕ → List ℕ → List Fault
find_gives_faults m defaults name stretch =
    find_faults m defaults name ++ (fault 13 0 (length stretch < 2) ∷ [])
