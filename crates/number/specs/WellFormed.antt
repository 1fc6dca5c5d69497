-- A called party number, as statements with no order of reading.
use Rattle.std.specs.Prelude.{ℕ, ◌+◌, ◌*◌, ◌/◌, ◌%◌, ◌<◌, ◌≤◌, ◌≡◌, List, get_or, length, set}
use Rattle.number.specs.declared.Number.{Number}
use Rattle.number.specs.Halves.{low_half, high_half}
use Rattle.number.specs.Contents.{odd_bit, nature_in, plan_in, internal_in}

-- R23, R24. the contents are a number with these values and these signals
pub record WellFormedNumber (contents : List ℕ) (number : Number) (signals : List ℕ) : Type 0 where
  -- two octets, then one for each two signals, and one for a signal that is left over
  pub octets : length contents ≡ 2 + (number.count + 1) / 2
  -- the odd bit is set exactly for an odd count of signals
  pub odd : odd_bit contents ≡ number.count % 2
  -- nature, plan and internal network bit are those of octets 0 and 1; the spare bits are ignored
  pub nature : number.nature ≡ nature_in contents
  pub plan : number.plan ≡ plan_in contents
  pub internal : number.internal ≡ internal_in contents
  -- the count is that of the signals, at most 30
  pub count : number.count ≡ length signals
  pub few : number.count ≤ 30
  -- the signals are the halves of the octets in order, low half first
  pub low : (j : ℕ) → 2 * j < number.count
      → get_or signals (2 * j) 0 ≡ low_half (get_or contents (j + 2) 0)
  pub high : (j : ℕ) → 2 * j + 1 < number.count
      → get_or signals (2 * j + 1) 0 ≡ high_half (get_or contents (j + 2) 0)
  -- an odd count leaves a high half as filler 0
  pub filler : (j : ℕ) → number.count ≡ 2 * j + 1 → high_half (get_or contents (j + 2) 0) ≡ 0

-- the four spare bits of octet 1 made 0
abbrev pub spareless : List ℕ → List ℕ
spareless contents = set contents 1 (get_or contents 1 0 / 16 * 16)
