-- The lines of list, bicc-list and sccp-list: the optional parameters of a
-- message, as a cursor's steps give them.
use Rattle.std.specs.Prelude.{ℕ, List, [], ◌∷◌, ◌++◌, eqb, length, Option, Some, None}
use Rattle.octets.specs.Octet.{octets}
use Rattle.octets.specs.Choice.{when◌then◌else◌}
use Rattle.octets.specs.Answer.{Answer, accepted, refused}
use Rattle.runs.specs.declared.Field.{Field}
use Rattle.runs.specs.Params.{Param}
use Rattle.parts.specs.declared.Parts.{Parts}
use Rattle.family.specs.Family.{Family, read_in}
use Rattle.family.specs.Steps.{offer_at_lem, steps_from, start_in}
use Rattle.isup.specs.Table.{isup}
use Rattle.bicc.specs.Table.{bicc}
use Rattle.sccp.specs.Table.{sccp}
use Rattle.words.specs.Said.{said}
use Rattle.fields.specs.Kinds.{FieldSays}
use Rattle.forms.specs.Rows.{LIST, BICC-LIST}
use Rattle.requests.specs.Words.{octets_at}
use Rattle.lines.specs.Lines.{shown, fault_line}

-- what a step shows: name and contents of the parameter; nothing where it is done
abbrev pub offer_text : List ℕ → Option Field → List ℕ
offer_text m (Some f) = shown " " (f.name ∷ []) ++ shown " " (octets m f.at f.len)
offer_text m None = []

-- what steps show, one after the other
unfoldable pub steps_text : List ℕ → List (Option Field) → List ℕ
steps_text m [] = []
steps_text m (g ∷ gs) = offer_text m g ++ steps_text m gs

-- parameters 20 41 21 -, of the steps from octet i on; parameters - where the first says done. A
-- message has fewer parameters than octets, which bounds the steps
abbrev pub list_from : List ℕ → ℕ → Option Field → List ℕ
list_from m i (Some f) = said "parameters" ++ steps_text m (steps_from (length m) m i)
list_from m i None = said "parameters -"

-- the same by what the reader says of the message: a refusal with its octet
abbrev pub list_by : List ℕ → ℕ → Answer Parts → List ℕ
list_by m i (accepted p) = list_from m i (offer_at_lem m i)
list_by m i (refused n at) = fault_line n at

-- the line of a message of a family
unfoldable pub list_in : Family → List ℕ → List ℕ
list_in F m = list_by m (start_in F m) (read_in F m)

-- the line of a row of the three, by what its field says; sccp-list is the last
unfoldable pub list_line_lem : ℕ → List FieldSays → List ℕ
list_line_lem which gs =
    when eqb which LIST then list_in isup (octets_at gs 0)
    else when eqb which BICC-LIST then list_in bicc (octets_at gs 0)
    else list_in sccp (octets_at gs 0)

-- ---- as the parameters themselves say it
-- name and contents of each, in order
unfoldable pub params_text : List Param → List ℕ
params_text [] = []
params_text (q ∷ qs) = shown " " (q.name ∷ []) ++ shown " " q.contents ++ params_text qs

-- parameters 20 41 21 -, or parameters - for none
abbrev pub params_line : List Param → List ℕ
params_line [] = said "parameters -"
params_line (q ∷ qs) = said "parameters" ++ params_text (q ∷ qs)
