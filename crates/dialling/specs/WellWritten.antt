-- A called party number as it is written, as statements with no order of reading.
use Rattle.std.specs.Prelude.{ℕ, ◌%◌, ◌≡◌, List, get_or, length}
use Rattle.octets.specs.Octet.{AllOctets}
use Rattle.number.specs.WellFormed.{WellFormedNumber}

-- the octets are the number with these values and these signals whose spare bits are 0
pub record WrittenNumber (nature plan internal : ℕ) (signals octets : List ℕ) : Type 0 where
  -- each is an octet
  pub each : AllOctets octets
  -- they are well formed, with these values and these signals
  pub number : WellFormedNumber octets (record {
    nature = nature;
    plan = plan;
    internal = internal;
    count = length signals;
  }) signals
  -- the four spare bits are 0
  pub spare : get_or octets 1 0 % 16 ≡ 0
