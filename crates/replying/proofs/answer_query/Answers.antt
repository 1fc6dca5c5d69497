use Prim.Native.Nat.{◌+◌}
use native.Mathlib.Omega.{arith}
use Rattle.std.proofs.lemmas.Grind.{common_steps}
use Rattle.octets.proofs.Tabulate.{length-tabulate}
use Rattle.isup.specs.Types.{CQR}
use Rattle.replies.specs.Replies.{headed, range_and_states}
use Rattle.replies.proofs.Writing.{sent-stored}
use Rattle.replying.proofs.answer_query.Goals as goal

pub returns-then-answer-size : goal.returns-then-answer-size
returns-then-answer-size c = grind (arith, common_steps, length-tabulate)

pub returns : goal.returns
returns c =
    let a = c.args in
    sent-stored (headed a.circuit CQR (range_and_states a.range a.group.now)) a.answer.now _ (9 + a.range) (omega (arith, length-tabulate)) c.if-answer-size.false (rw c.write_head.ensures at c.write_states.ensures)
