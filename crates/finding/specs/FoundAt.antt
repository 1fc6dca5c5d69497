-- What it is to find a parameter, as the paper says it: no order of reading.
use Rattle.std.specs.Prelude.{ℕ, ◌≤◌, ◌≡◌, List, ◌⊎◌, length}
use Rattle.runs.specs.Params.{Param, Params, NoneNamed, FirstNamed}
use Rattle.isup.specs.declared.Message.{Message}
use Rattle.finding.specs.Find.{Spot}
use Rattle.isup.specs.WellFormed.{WellFormed}

-- the message has no optional parameter of that name
abbrev pub Lacks : List ℕ → ℕ → Type 0
Lacks m name = (x : Message) (f : WellFormed m x) → NoneNamed name f.params

-- the run that is lent has none
abbrev pub RunLacks : List ℕ → ℕ → Type 0
RunLacks d name = (ds : List Param) → Params d 0 ds (length d) → NoneNamed name ds

-- R20. of the message's parameters the first of that name is the one at the spot
abbrev pub InMessage : List ℕ → ℕ → Spot → Type 0
InMessage m name s =
    (s.holder ≡ 0)
    × ((x : Message) × (f : WellFormed m x)
    × FirstNamed m x.parts.optional.from f.params name s.start s.len)

-- the message has none, and of the defaults' parameters the first of that
-- name is the one at the spot
abbrev pub InDefaults : List ℕ → List ℕ → ℕ → Spot → Type 0
InDefaults m d name s =
    (s.holder ≡ 100) × ((x : Message) × WellFormed m x) × Lacks m name
    × ((ds : List Param) × Params d 0 ds (length d) × FirstNamed d 0 ds name s.start s.len)

-- R21. the defaults are whole parameters, and the spot is the message's, else the defaults'
abbrev pub FoundAt : List ℕ → List ℕ → ℕ → Spot → Type 0
FoundAt m d name s =
    ((ds : List Param) × Params d 0 ds (length d)) × (name ≤ 255)
    × (InMessage m name s ⊎ InDefaults m d name s)
