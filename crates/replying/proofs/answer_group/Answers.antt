use mathlib.Core.List.{◌∷◌}
use Prim.Native.Nat.{◌+◌, ◌/◌}
use native.Mathlib.Omega.{arith}
use Rattle.std.proofs.lemmas.Grind.{common_steps}
use Rattle.octets.proofs.Tabulate.{length-tabulate}
use Rattle.replies.specs.Replies.{headed, status_given, range_and_status}
use Rattle.replies.proofs.Writing.{sent-stored}
use Rattle.replying.proofs.answer_group.Goals as goal

pub returns-then-answer-size : goal.returns-then-answer-size
returns-then-answer-size c = grind (arith, common_steps, length-tabulate)

pub returns : goal.returns
returns c =
    let a = c.args in
    sent-stored (headed a.circuit a.kind (a.block ∷ range_and_status a.range (status_given a.range a.status.now))) a.answer.now _ (8 + a.range / 8) (omega (arith, length-tabulate)) c.if-answer-size.false (rw c.write_head.ensures at c.write_status.ensures)
