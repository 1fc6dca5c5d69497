-- Stepping through the optional parameters of a message: where it starts, what
-- each step gives, and where the next one is.
use Rattle.std.specs.Prelude.{ℕ, zero, suc, ◌+◌, ◌≡◌, List, [], ◌∷◌, Option, Some, None, ltb, length}
use Rattle.octets.specs.Octet.{octets}
use Rattle.octets.specs.Choice.{when◌then◌else◌}
use Rattle.octets.specs.Answer.{Answer, accepted, refused}
use Rattle.runs.specs.declared.Step.{Step}
use Rattle.runs.specs.declared.Step.TheVariants.{Param as Stands, Close, End, Pass}
use Rattle.runs.specs.Run.{step_at_lem}
use Rattle.runs.specs.Params.{Param}
use Rattle.runs.specs.declared.Field.{Field}
use Rattle.parts.specs.declared.Parts.{Parts}
use Rattle.family.specs.Family.{Family, read_in}

-- a parameter is given; at anything else stepping is done
abbrev pub offer_by : Step → Option Field
offer_by (Stands f) = Some f
offer_by Close = None
offer_by End = None
offer_by Pass = None

-- what a step gives at octet i of a message
unfoldable pub offer_at_lem : List ℕ → ℕ → Option Field
offer_at_lem m i = offer_by (step_at_lem m i)

-- past a parameter; at anything else the place is kept
abbrev pub past_by : ℕ → Step → ℕ
past_by i (Stands f) = f.at + f.len
past_by i Close = i
past_by i End = i
past_by i Pass = i

-- where the next step is
unfoldable pub place_after_lem : List ℕ → ℕ → ℕ
place_after_lem m i = past_by i (step_at_lem m i)

-- what n steps give from octet i on
unfoldable pub steps_from : ℕ → List ℕ → ℕ → List (Option Field)
steps_from zero m i = []
steps_from (suc n) m i = offer_at_lem m i ∷ steps_from n m (place_after_lem m i)

-- the first octet of the optional run; past the message where it has none, or
-- where the reader refuses it
abbrev pub start_by : List ℕ → Answer Parts → ℕ
start_by m (accepted p) =
    when ltb p.optional.from p.optional.to then p.optional.from else length m
start_by m (refused n at) = length m

-- where stepping through a message of a family starts
unfoldable pub start_in : Family → List ℕ → ℕ
start_in F m = start_by m (read_in F m)

-- the answer is that parameter: its name, and its contents where it says
abbrev pub Gives : List ℕ → Param → Option Field → Type 0
Gives m q (Some f) = (f.name ≡ q.name) × (octets m f.at f.len ≡ q.contents)
Gives m q None = ⊥

-- R54. the answers are those parameters in order, and done from there on
abbrev pub GivesAll : List ℕ → List Param → List (Option Field) → Type 0
GivesAll m qs [] = Unit {0}
GivesAll m [] (g ∷ gs) = (g ≡ None) × GivesAll m [] gs
GivesAll m (q ∷ qs) (g ∷ gs) = Gives m q g × GivesAll m qs gs
