-- What `write_number` answers, and what it leaves in the lent buffer.
use Rattle.std.specs.Prelude.{ℕ, Bool, true, false, List, [], ◌∷◌, ltb, length}
use Rattle.octets.specs.Choice.{when◌then◌else◌}
use Rattle.octets.specs.Answer.{Answer, accepted, refused, ◌then◌}
use Rattle.octets.specs.Filled.{Done, done, room_for}
use Rattle.number.specs.Contents.{coded_as}

-- whether a signal is above 15
unfoldable pub any_above15 : List ℕ → Bool
any_above15 [] = false
any_above15 (signal ∷ signals) = when ltb 15 signal then true else any_above15 signals

-- octets to write, with their length
abbrev pub with_length : List ℕ → ℕ × List ℕ
with_length octets = (length octets, octets)

-- the octets of a number and their length, or 14: nature above 127, plan above 7, internal bit
-- above 1, more than 30 signals, a signal above 15
abbrev pub number_octets : ℕ → ℕ → ℕ → List ℕ → Answer (ℕ × List ℕ)
number_octets nature plan internal signals =
    when ltb 127 nature then refused 14 0 else
    when ltb 7 plan then refused 14 0 else
    when ltb 1 internal then refused 14 0 else
    when ltb 30 (length signals) then refused 14 0 else
    when any_above15 signals then refused 14 0 else
    accepted (with_length (coded_as nature plan internal signals))

-- all that writing does: the length, and the buffer with the octets at its front
abbrev pub write_number_of : ℕ → ℕ → ℕ → List ℕ → List ℕ → Done ℕ
write_number_of nature plan internal signals buffer =
    done buffer (number_octets nature plan internal signals then room_for buffer)
