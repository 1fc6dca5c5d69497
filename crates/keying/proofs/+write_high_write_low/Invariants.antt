use Rattle.keying.proofs.+write_high_write_low.Given as goal

abbrev pub decreases-write_high : goal.decreases-write_high
decreases-write_high l = l.left

abbrev pub decreases-write_low : goal.decreases-write_low
decreases-write_low l = l.left
