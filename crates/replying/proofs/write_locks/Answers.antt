use Rattle.std.proofs.Common.{ℕ, ◌+◌, ◌-◌, ◌/◌, List, sym, ap, ◌∙◌, arith}
use lib.Seq.{sets}
use Rattle.octets.proofs.Tabulate.{tabulate-more, tabulate-done}
use Rattle.marks.specs.Marks.{locked_octet_lem}
use Rattle.replies.specs.Replies.{locks_from}
use Rattle.replies.proofs.Writing.{three-stores}
use Rattle.replying.proofs.write_locks.Goals as goal

pub loop-j-preserved : goal.loop-j-preserved
loop-j-preserved c =
    let l = c.loop-j in
    let a = c.args in
    sym (tabulate-more (locked_octet_lem a.range a.group.now) l.answer 6 l.j (a.range / 8 + 1 - l.j) (a.range / 8 + 1 - (l.j + 1)) c.locked_octet.result (omega arith) c.locked_octet.ensures) ∙ l.invariant

pub returns : goal.returns
returns c =
    let l = c.loop-j in
    let a = c.args in
    ap (λ (r : List ℕ). sets l.answer (6 + l.j) r) (sym (tabulate-done (locked_octet_lem a.range a.group.now) l.j (a.range / 8 + 1 - l.j) (omega arith))) ∙ l.invariant ∙ three-stores a.answer.now 3 1 (1 + (a.range / 8 + 1)) a.range (locks_from a.range a.group.now 0 (a.range / 8 + 1))
