-- What it is for two messages to differ in spare bits alone.
use Rattle.std.specs.Prelude.{ℕ, ◌+◌, ◌/◌, ◌<◌, ◌≡◌, List, ◌⊎◌}
use Rattle.octets.specs.Octet.{octet}
use Rattle.octets.specs.Answer.{accepted}
use Rattle.isup.specs.declared.Message.{Message}
use Rattle.isup.specs.Read.{read_of}
use Rattle.isup.specs.Types.{CGB, CGU}
use Rattle.marks.specs.Marks.{cut_to}
use Rattle.asks.specs.Asks.{range_in, block_kind, indicator_in}

-- two messages that read alike, CGB or CGU, of the same kind of block and the same range, whose
-- status octets are the same but for the spare bits of the last
pub record SpareAlike (m m' : List ℕ) (x : Message) : Type 0 where
  pub group : (x.kind ≡ CGB) ⊎ (x.kind ≡ CGU)
  pub reads : read_of m ≡ accepted x
  pub reads' : read_of m' ≡ accepted x
  pub kinds : block_kind (indicator_in m' x) ≡ block_kind (indicator_in m x)
  pub ranges : range_in m' x.parts.first ≡ range_in m x.parts.first
  pub whole : (j : ℕ) → j < range_in m x.parts.first / 8
      → octet m' (x.parts.first.from + 1 + j) ≡ octet m (x.parts.first.from + 1 + j)
  pub last :
      cut_to (octet m' (x.parts.first.from + 1
      + range_in m x.parts.first / 8)) (range_in m x.parts.first)
      ≡ cut_to (octet m (x.parts.first.from + 1
      + range_in m x.parts.first / 8)) (range_in m x.parts.first)
