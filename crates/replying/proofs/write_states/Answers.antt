use Rattle.std.proofs.Common.{ℕ, ◌+◌, ◌-◌, List, sym, ap, ◌∙◌, arith}
use lib.Seq.{sets}
use Rattle.octets.specs.Octet.{octet}
use Rattle.octets.proofs.Tabulate.{tabulate-more, tabulate-done}
use Rattle.rows.specs.Rows.{circuit_state_lem}
use Rattle.replying.proofs.write_states.Goals as goal

pub loop-i-preserved : goal.loop-i-preserved
loop-i-preserved c =
    let l = c.loop-i in
    let a = c.args in
    sym (tabulate-more (λ k. circuit_state_lem (octet a.group.now k)) l.answer 8 l.i (a.range + 1 - l.i) (a.range + 1 - (l.i + 1)) c.circuit_state.result (omega arith) (c.circuit_state.ensures ∙ ap circuit_state_lem c.octet_at.ensures)) ∙ l.invariant

pub returns : goal.returns
returns c =
    let l = c.loop-i in
    let a = c.args in
    ap (λ (r : List ℕ). sets l.answer (8 + l.i) r) (sym (tabulate-done (λ k. circuit_state_lem (octet a.group.now k)) l.i (a.range + 1 - l.i) (omega arith))) ∙ l.invariant
