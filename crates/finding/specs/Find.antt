-- Finding an optional parameter: the first match in wire order in the message, else in the
-- customer's defaults, an optional run without its closing 0.
-- Order: the reader's numbers, 11 for the defaults, 15.
use Rattle.std.specs.Prelude.{ℕ, List, Option, Some, None, ltb, eqb}
use Rattle.octets.specs.Choice.{when◌then◌else◌}
use Rattle.octets.specs.Answer.{Answer, accepted, refused, ◌then◌}
use Rattle.parts.specs.declared.Span.{Span}
use Rattle.runs.specs.Run.{is_run_lem, named_from}
use Rattle.isup.specs.Read.{read_of}
use Rattle.finding.specs.declared.Code.{Code}

-- where contents were found: the companion's answer, 0 for the message and 100 for the defaults,
-- then their first octet there and how many octets they are
pub record Spot : Type 0 where
  pub holder : ℕ
  pub start : ℕ
  pub len : ℕ

-- a spot by its three parts
abbrev pub spot : ℕ → ℕ → ℕ → Spot
spot h a n = record { holder = h; start = a; len = n }

-- the first parameter of that name in a message's optional run; a run with no octets has none
unfoldable pub named_in : List ℕ → Span → ℕ → Option (ℕ × ℕ)
named_in m run name = when ltb run.from run.to then named_from m run.from name else None

-- found in the defaults; 15 where they have none either
abbrev pub in_defaults : Option (ℕ × ℕ) → Answer Spot
in_defaults (Some (a, n)) = accepted (spot 100 a n)
in_defaults None = refused 15 0

-- found in the message, else as the others say
abbrev pub in_message : Option (ℕ × ℕ) → Answer Spot → Answer Spot
in_message (Some (a, n)) others = accepted (spot 0 a n)
in_message None others = others

-- the message's first parameter of that name, else the defaults'
abbrev pub first_of : List ℕ → Span → List ℕ → ℕ → Answer Spot
first_of m run defaults name =
    in_message (named_in m run name) (in_defaults (named_from defaults 0 name))

-- in a message that reads, its optional run given: 11 for defaults that are no run; a name is an
-- octet, so above 255 there is no such parameter
unfoldable pub sought_in : List ℕ → Span → List ℕ → ℕ → Answer Spot
sought_in m run defaults name =
    when is_run_lem defaults then (when ltb 255 name then refused 15 0 else first_of m run defaults name)
    else refused 11 0

-- where the first parameter of that name has its contents, or the refusal:
-- the reader's numbers, 11, 15
unfoldable pub locate_of : List ℕ → List ℕ → ℕ → Answer Spot
locate_of m defaults name = read_of m then λ x. sought_in m x.parts.optional defaults name

-- where the stretch that is handed back starts: a refusal hands back the empty
-- stretch at the message's start
abbrev pub stretch_start : Answer Spot → ℕ
stretch_start (accepted s) = s.start
stretch_start (refused n at) = 0

-- how many octets it has
abbrev pub stretch_length : Answer Spot → ℕ
stretch_length (accepted s) = s.len
stretch_length (refused n at) = 0

-- R22. the companion's answer: 0 for the message, 100 for the defaults, or the refusal's number
-- with the octet that it is about
abbrev pub code_of : Answer Spot → Code
code_of (accepted s) = record { number = s.holder; place = 0 }
code_of (refused n at) = record { number = n; place = at }

-- whichever held it
abbrev pub held_by_lem : {A : Type 0} → Answer Spot → A → A → A
held_by_lem (accepted s) message defaults = when eqb s.holder 100 then defaults else message
held_by_lem (refused n at) message defaults = message
