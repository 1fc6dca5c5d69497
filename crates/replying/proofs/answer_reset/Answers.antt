use Prim.Native.Nat.{◌+◌, ◌/◌}
use native.Mathlib.Omega.{arith}
use Rattle.std.proofs.lemmas.Grind.{common_steps}
use Rattle.octets.proofs.Tabulate.{length-tabulate}
use Rattle.isup.specs.Types.{GRA}
use Rattle.replies.specs.Replies.{headed, status_locked, range_and_status}
use Rattle.replies.proofs.Writing.{sent-stored}
use Rattle.replying.proofs.answer_reset.Goals as goal

pub returns-then-answer-size : goal.returns-then-answer-size
returns-then-answer-size c = grind (arith, common_steps, length-tabulate)

pub returns : goal.returns
returns c =
    let a = c.args in
    sent-stored (headed a.circuit GRA (range_and_status a.range (status_locked a.range a.group.now))) a.answer.now _ (7 + a.range / 8) (omega (arith, length-tabulate)) c.if-answer-size.false (rw c.write_head.ensures at c.write_locks.ensures)
