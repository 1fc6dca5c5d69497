use Rattle.std.proofs.Common.{◌≡◌, ◌+◌, ◌-◌}
use lib.Seq.{sets}
use Rattle.replies.specs.Replies.{states_from}
use Rattle.replying.proofs.write_states.Given as goal

abbrev pub invariant-loop-i : goal.invariant-loop-i
invariant-loop-i l =
    sets l.answer (8 + l.i) (states_from l.group l.i (l.count - l.i)) ≡ sets l.initial.answer 8 (states_from l.group 0 l.count)
