-- Octets are numbered from 0.
use Rattle.std.specs.Prelude.{ℕ, ◌<◌, List, get_or, take, drop}

-- octet i of a message
abbrev pub octet : List ℕ → ℕ → ℕ
octet m i = get_or m i 0

-- the n octets from octet i on
abbrev pub octets : List ℕ → ℕ → ℕ → List ℕ
octets m i n = take n (drop i m)

-- each is an octet, as those of a lent slice are
abbrev pub AllOctets : List ℕ → Type 0
AllOctets m = (i : ℕ) → octet m i < 256
