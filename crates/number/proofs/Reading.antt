-- Each way in which reading ends.
use Prim.Native.Nat.{ℕ, ◌<◌, ◌≤◌}
use mathlib.Core.Path.{◌≡◌}
use mathlib.Core.List.{List}
use borrow.Author.Tests.{lt-ltb, le-ltb}
use lib.ListN.{length}
use lib.Seq.{sets}
use Rattle.octets.specs.Answer.{accepted, refused}
use Rattle.number.specs.declared.Number.{Number}
use Rattle.number.specs.Contents.{odd_bit, nature_in, internal_in, plan_in, half_count, count_in, filler_in, signals_in}
use Rattle.octets.specs.Filled.{leaving}
use Rattle.number.specs.Read.{values_in, number_in, read_number_of}
use Rattle.octets.proofs.Filled.{sets-filled}

module _ (contents buffer : List ℕ) where
  -- fewer than 2 octets
  pub read_short : length contents < 2 → leaving (refused 14 0) buffer ≡ read_number_of contents buffer
  read_short h = rw (lt-ltb (length contents) 2 h)

  -- odd with no signals
  pub read-empty : 2 ≤ length contents → half_count contents < odd_bit contents → leaving (refused 14 0) buffer ≡ read_number_of contents buffer
  read-empty a h = rw (le-ltb (length contents) 2 a, lt-ltb (half_count contents) (odd_bit contents) h)

  -- filler not 0
  pub read-filler : 2 ≤ length contents → odd_bit contents ≤ half_count contents → 0 < filler_in contents → leaving (refused 14 0) buffer ≡ read_number_of contents buffer
  read-filler a b h =
      rw (le-ltb (length contents) 2 a, le-ltb (half_count contents) (odd_bit contents) b, lt-ltb 0 (filler_in contents) h)

  -- more than 30 signals
  pub read-long : 2 ≤ length contents → odd_bit contents ≤ half_count contents → filler_in contents ≤ 0 → 30 < count_in contents → leaving (refused 14 0) buffer ≡ read_number_of contents buffer
  read-long a b d h =
      rw (le-ltb (length contents) 2 a, le-ltb (half_count contents) (odd_bit contents) b, le-ltb 0 (filler_in contents) d, lt-ltb 30 (count_in contents) h)

-- none of these: the contents hold a number
pub number-there : (contents : List ℕ) → 2 ≤ length contents → odd_bit contents ≤ half_count contents → filler_in contents ≤ 0 → count_in contents ≤ 30 → number_in contents ≡ accepted (values_in contents, signals_in contents)
number-there contents a b d h =
    rw (le-ltb (length contents) 2 a, le-ltb (half_count contents) (odd_bit contents) b, le-ltb 0 (filler_in contents) d, le-ltb 30 (count_in contents) h)

-- the values, with a bit and a count that were come by otherwise
pub values_same : (contents : List ℕ) (bit n : ℕ) → bit ≡ internal_in contents → n ≡ count_in contents → ◌≡◌ {A = Number} (record { nature = nature_in contents; plan = plan_in contents; internal = bit; count = n }) (values_in contents)
values_same contents bit n p q = rw (p, q)

module _ (contents buffer : List ℕ) (x : Number) (signals : List ℕ) (e : number_in contents ≡ accepted (x, signals)) where
  -- a number, but too short a buffer
  pub read-no-room : length buffer < length signals → leaving (refused 13 0) buffer ≡ read_number_of contents buffer
  read-no-room h = rw (e, lt-ltb (length buffer) (length signals) h)

  -- a number, and its signals at the front of the buffer
  pub read_done : (y : Number) (l : List ℕ) → length signals ≤ length buffer → y ≡ x → l ≡ sets buffer 0 signals → leaving (accepted y) l ≡ read_number_of contents buffer
  read_done y l h p q = rw (e, le-ltb (length buffer) (length signals) h, p, q, sets-filled signals buffer h)
