use Rattle.std.proofs.Common.{ℕ, ◌+◌, ◌-◌, ◌/◌, List, sym, ap, ◌∙◌, arith}
use lib.Seq.{sets}
use Rattle.octets.proofs.Tabulate.{tabulate-more, tabulate-done}
use Rattle.marks.specs.Marks.{status_octet_lem}
use Rattle.replies.specs.Replies.{status_from}
use Rattle.replies.proofs.Writing.{three-stores}
use Rattle.replying.proofs.write_status.Goals as goal

pub loop-j-preserved : goal.loop-j-preserved
loop-j-preserved c =
    let l = c.loop-j in
    let a = c.args in
    sym (tabulate-more (status_octet_lem a.range a.status.now) l.answer (a.at + 3) l.j (a.range / 8 + 1 - l.j) (a.range / 8 + 1 - (l.j + 1)) c.status_octet.result (omega arith) c.status_octet.ensures) ∙ l.invariant

pub returns : goal.returns
returns c =
    let l = c.loop-j in
    let a = c.args in
    ap (λ (r : List ℕ). sets l.answer (a.at + 3 + l.j) r) (sym (tabulate-done (status_octet_lem a.range a.status.now) l.j (a.range / 8 + 1 - l.j) (omega arith))) ∙ l.invariant ∙ three-stores a.answer.now a.at 1 (1 + (a.range / 8 + 1)) a.range (status_from a.range a.status.now 0 (a.range / 8 + 1))
