use Rattle.std.proofs.Common.{◌≡◌, ◌+◌, ◌-◌}
use lib.Seq.{sets}
use Rattle.replies.specs.Replies.{status_from}
use Rattle.replying.proofs.write_status.Given as goal

abbrev pub invariant-loop-j : goal.invariant-loop-j
invariant-loop-j l =
    sets l.answer (l.at + 3 + l.j) (status_from l.range l.status l.j (l.width - l.j)) ≡ sets l.initial.answer (l.at + 3) (status_from l.range l.status 0 l.width)
