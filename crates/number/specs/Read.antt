-- What `read_number` answers, and what it leaves in the lent buffer.
use Rattle.std.specs.Prelude.{ℕ, List, ltb, length}
use Rattle.octets.specs.Choice.{when◌then◌else◌}
use Rattle.octets.specs.Answer.{Answer, accepted, refused, ◌then◌}
use Rattle.octets.specs.Filled.{Done, done, room_for}
use Rattle.number.specs.declared.Number.{Number}
use Rattle.number.specs.Contents.{odd_bit, nature_in, internal_in, plan_in, half_count, count_in, filler_in, signals_in}

-- the values that the contents have beside the signals
abbrev pub values_in : List ℕ → Number
values_in contents =
    record {
      nature = nature_in contents;
      plan = plan_in contents;
      internal = internal_in contents;
      count = count_in contents;
    }

-- the number in the contents and its signals, or 14: fewer than 2 octets, odd with no signals,
-- filler not 0, more than 30 signals
abbrev pub number_in : List ℕ → Answer (Number × List ℕ)
number_in contents =
    when ltb (length contents) 2 then refused 14 0 else
    when ltb (half_count contents) (odd_bit contents) then refused 14 0 else
    when ltb 0 (filler_in contents) then refused 14 0 else
    when ltb 30 (count_in contents) then refused 14 0 else
    accepted (values_in contents, signals_in contents)

-- all that reading does: the answer, and the buffer with the signals at its front
abbrev pub read_number_of : List ℕ → List ℕ → Done Number
read_number_of contents buffer = done buffer (number_in contents then room_for buffer)
