-- What stands between the lines and the code: the line by what the start gives and its place.
use Rattle.std.specs.Prelude.{ℕ, List, ⊤}
use Rattle.octets.specs.Answer.{Answer, accepted, refused}
use Rattle.family.specs.Steps.{offer_at_lem}
use Rattle.lines.specs.Lines.{fault_line}
use Rattle.list_lines.specs.Lists.{list_from}

-- the steps from the start's place on, or the refusal with its octet
abbrev pub begun_line : List ℕ → Answer ⊤ → ℕ → List ℕ
begun_line m (accepted x) i = list_from m i (offer_at_lem m i)
begun_line m (refused n at) i = fault_line n at
