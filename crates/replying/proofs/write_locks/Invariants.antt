use Rattle.std.proofs.Common.{◌≡◌, ◌+◌, ◌-◌}
use lib.Seq.{sets}
use Rattle.replies.specs.Replies.{locks_from}
use Rattle.replying.proofs.write_locks.Given as goal

abbrev pub invariant-loop-j : goal.invariant-loop-j
invariant-loop-j l =
    sets l.answer (6 + l.j) (locks_from l.range l.group l.j (l.width - l.j)) ≡ sets l.initial.answer 6 (locks_from l.range l.group 0 l.width)
