-- The faults of a search, in the paper's order.
use Rattle.std.specs.Prelude.{ℕ, ◌<◌, List, [], ◌∷◌, ◌++◌, ◌⊎◌}
use Rattle.octets.specs.Faults.{Fault, fault}
use Rattle.runs.specs.Params.{BadRun}
use Rattle.finding.specs.FoundAt.{Lacks, RunLacks}
use Rattle.isup.specs.Faults.{reader_faults}

-- R22. no such optional parameter: a name is an octet, and neither the
-- message nor the defaults has it
abbrev pub NoSuch : List ℕ → List ℕ → ℕ → Type 0
NoSuch m d name = (255 < name) ⊎ (Lacks m name × RunLacks d name)

-- R22. the reader's, then 11 for the defaults, then 15
abbrev pub find_faults : List ℕ → List ℕ → ℕ → List Fault
find_faults m d name = reader_faults m ++ (fault 11 0 (BadRun d) ∷ fault 15 0 (NoSuch m d name) ∷ [])
