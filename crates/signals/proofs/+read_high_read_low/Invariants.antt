use Rattle.signals.proofs.+read_high_read_low.Given as goal

abbrev pub decreases-read_high : goal.decreases-read_high
decreases-read_high l = l.left

abbrev pub decreases-read_low : goal.decreases-read_low
decreases-read_low l = l.left
