-- Spans of a message: octets from one place up to another.
use Rattle.std.specs.Prelude.{ℕ, ◌-◌, List}
use Rattle.octets.specs.Octet.{octets}
use Rattle.parts.specs.declared.Span.{Span}

-- octets from f up to and not including t
abbrev pub span : ℕ → ℕ → Span
span f t = record { from = f; to = t }

-- how many octets a span has
abbrev pub span_size : Span → ℕ
span_size s = s.to - s.from

-- the octets of a span
abbrev pub part_of : List ℕ → Span → List ℕ
part_of m s = octets m s.from (span_size s)
