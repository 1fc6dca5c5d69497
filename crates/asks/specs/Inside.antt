-- What only the contracts of the code's own functions say.
use Rattle.std.specs.Prelude.{ℕ, ◌≤◌, ◌<◌, ◌≡◌, List, ◌⊎◌, length}
use Rattle.parts.specs.declared.Span.{Span}
use Rattle.parts.specs.Spans.{span}
use Rattle.isup.specs.declared.Message.{Message}
use Rattle.isup.specs.Limits.{last_circuit}
use Rattle.isup.specs.Types.{CGB, CGU}

-- of a message that reads, all that the hub looks at: its type, its circuit, where its fixed part
-- starts, and its first contents
abbrev pub looked : ℕ → ℕ → ℕ → Span → Message
looked kind circuit at contents =
    record {
      circuit = circuit;
      kind = kind;
      parts = record {
        fixed = span at at;
        first = contents;
        second = span 0 0;
        third = span 0 0;
        optional = span 0 0;
      };
    }

-- what is known of these in a message that reads: the contents are within it,
-- and the indicator too where the type has one
pub record Placed (m : List ℕ) (kind circuit at : ℕ) (contents : Span) : Type 0 where
  pub starts : contents.from ≤ contents.to
  pub ends : contents.to ≤ length m
  pub low : circuit ≤ last_circuit
  pub indicated : (kind ≡ CGB) ⊎ (kind ≡ CGU) → at < length m
