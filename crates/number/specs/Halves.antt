-- Address signals, two to an octet, low half of an octet first.
use Rattle.std.specs.Prelude.{ℕ, ◌+◌, ◌*◌, ◌/◌, ◌%◌, List, [], ◌∷◌}

-- the low half of an octet
abbrev pub low_half : ℕ → ℕ
low_half octet = octet % 16

-- the high half of an octet
abbrev pub high_half : ℕ → ℕ
high_half octet = octet / 16

-- the octet with these two halves
abbrev pub halves_joined : ℕ → ℕ → ℕ
halves_joined low high = low + 16 * high

-- the halves of the octets in order, low half first
unfoldable pub halves : List ℕ → List ℕ
halves [] = []
halves (octet ∷ octets) = low_half octet ∷ high_half octet ∷ halves octets

-- the signals two to an octet, low half first; an odd count leaves a high half as filler 0
unfoldable pub two_to_an_octet : List ℕ → List ℕ
two_to_an_octet [] = []
two_to_an_octet (low ∷ []) = halves_joined low 0 ∷ []
two_to_an_octet (low ∷ high ∷ signals) = halves_joined low high ∷ two_to_an_octet signals
