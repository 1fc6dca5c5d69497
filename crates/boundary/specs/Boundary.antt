-- What the functions for C give: a number, and what the lent buffer holds afterwards.
use Rattle.std.specs.Prelude.{ℕ, ◌≤◌, List, [], ◌∷◌, eqb}
use Rattle.octets.specs.Choice.{when◌then◌else◌}
use Rattle.octets.specs.Filled.{Done}
use Rattle.telling.specs.Telling.{packed}
use Rattle.parts.specs.declared.Span.{Span}
use Rattle.parts.specs.declared.Parts.{Parts}
use Rattle.parts.specs.Spans.{span_size}

-- a number, and what the lent buffer holds afterwards
pub record Given : Type 0 where
  pub value : ℕ
  pub left : List ℕ

-- the two together
abbrev pub given : ℕ → List ℕ → Given
given value left = record { value = value; left = left }

-- what a function that fills a lent buffer gives: its answer as one number, and the buffer
abbrev pub given_by : Done ℕ → Given
given_by d = given (packed d.answer) d.left

-- where the fixed part starts; 0 for a type that has none
abbrev pub fixed_start_lem : Span → ℕ
fixed_start_lem s = when eqb s.from s.to then 0 else s.from

-- start and length of the fixed part, of the first and of the second
-- contents, and of the optional run
abbrev pub places_of : Parts → List ℕ
places_of p =
    fixed_start_lem p.fixed ∷ span_size p.fixed
    ∷ p.first.from ∷ span_size p.first
    ∷ p.second.from ∷ span_size p.second
    ∷ p.optional.from ∷ span_size p.optional
    ∷ []

-- no part ends before it starts, or past what 16 bits hold
abbrev pub InSixteenBits : Span → Type 0
InSixteenBits s = (s.from ≤ s.to) × (s.to ≤ 65535)

-- all parts of a message are so
abbrev pub SmallParts : Parts → Type 0
SmallParts p =
    InSixteenBits p.fixed × InSixteenBits p.first × InSixteenBits p.second
    × InSixteenBits p.optional
