-- Each way in which writing ends.
use Prim.Native.Nat.{ℕ, ◌<◌, ◌≤◌}
use mathlib.Core.Path.{◌≡◌}
use mathlib.Core.Bool.{true, false}
use mathlib.Core.List.{List}
use borrow.Author.Tests.{lt-ltb, le-ltb}
use lib.ListN.{length}
use lib.Seq.{sets}
use Rattle.octets.specs.Answer.{accepted, refused}
use Rattle.number.specs.Contents.{coded_as}
use Rattle.octets.specs.Filled.{leaving}
use Rattle.dialling.specs.Write.{any_above15, with_length, number_octets, write_number_of}
use Rattle.octets.proofs.Filled.{sets-filled}

module _ (nature plan internal : ℕ) (signals buffer : List ℕ) where
  -- nature above 127
  pub write-nature : 127 < nature → leaving (refused 14 0) buffer ≡ write_number_of nature plan internal signals buffer
  write-nature h = rw (lt-ltb 127 nature h)

  -- plan above 7
  pub write-plan : nature ≤ 127 → 7 < plan → leaving (refused 14 0) buffer ≡ write_number_of nature plan internal signals buffer
  write-plan a h = rw (le-ltb 127 nature a, lt-ltb 7 plan h)

  -- internal bit above 1
  pub write-internal : nature ≤ 127 → plan ≤ 7 → 1 < internal → leaving (refused 14 0) buffer ≡ write_number_of nature plan internal signals buffer
  write-internal a b h = rw (le-ltb 127 nature a, le-ltb 7 plan b, lt-ltb 1 internal h)

  -- more than 30 signals
  pub write-long : nature ≤ 127 → plan ≤ 7 → internal ≤ 1 → 30 < length signals → leaving (refused 14 0) buffer ≡ write_number_of nature plan internal signals buffer
  write-long a b d h = rw (le-ltb 127 nature a, le-ltb 7 plan b, le-ltb 1 internal d, lt-ltb 30 (length signals) h)

  -- a signal above 15
  pub write-above : nature ≤ 127 → plan ≤ 7 → internal ≤ 1 → length signals ≤ 30 → any_above15 signals ≡ true → leaving (refused 14 0) buffer ≡ write_number_of nature plan internal signals buffer
  write-above a b d f h =
      rw (le-ltb 127 nature a, le-ltb 7 plan b, le-ltb 1 internal d, le-ltb 30 (length signals) f, h)

-- none of these: there are octets for it
pub octets-there : (nature plan internal : ℕ) (signals : List ℕ) → nature ≤ 127 → plan ≤ 7 → internal ≤ 1 → length signals ≤ 30 → any_above15 signals ≡ false → number_octets nature plan internal signals ≡ accepted (with_length (coded_as nature plan internal signals))
octets-there nature plan internal signals a b d f h =
    rw (le-ltb 127 nature a, le-ltb 7 plan b, le-ltb 1 internal d, le-ltb 30 (length signals) f, h)

module _ (nature plan internal : ℕ) (signals buffer : List ℕ) (n : ℕ) (octets : List ℕ) (e : number_octets nature plan internal signals ≡ accepted (n, octets)) where
  -- octets for it, but too short a buffer
  pub write-no-room : length buffer < length octets → leaving (refused 13 0) buffer ≡ write_number_of nature plan internal signals buffer
  write-no-room h = rw (e, lt-ltb (length buffer) (length octets) h)

  -- the octets at the front of the buffer
  pub write_done : (m : ℕ) (l : List ℕ) → length octets ≤ length buffer → m ≡ n → l ≡ sets buffer 0 octets → leaving (accepted m) l ≡ write_number_of nature plan internal signals buffer
  write_done m l h p q = rw (e, le-ltb (length buffer) (length octets) h, p, q, sets-filled octets buffer h)
