use mathlib.Core.List.{List}
use mathlib.Core.Path.{sym, ap, ◌∙◌}
use Prim.Native.Nat.{ℕ, ◌+◌, ◌-◌}
use native.Mathlib.Omega.{arith}
use Rattle.octets.specs.Applied.{applied}
use Rattle.octets.proofs.Applied.{applied-none}
use Rattle.hub.specs.Rows.{effect}
use Rattle.hub.proofs.Writing.{row-marked, row-unmarked, rows-queried}
use Rattle.handling.proofs.change_rows.Goals as goal
use Rattle.handling.proofs.change_rows.Goals.{then-marked, else-marked}

pub returns-in-Query : goal.returns-in-Query
returns-in-Query c = let a = c.args in sym (rows-queried a.message.now a.ask a.states.now c.in-Query.is)

pub loop-i-preserved : goal.loop-i-preserved
loop-i-preserved c =
    let l = c.loop-i in
    let a = c.args in
    let k = c.marked in
    let rest : List ℕ → List ℕ = applied (effect a.message.now a.ask) (a.ask.circuit + (l.i + 1)) (a.ask.range + 1 - (l.i + 1)) in
    elim c.if-marked.branch [ then-marked w ↦ ap rest w.states-is ∙ sym (row-marked a.message.now a.ask l.i _ _ k.result l.states k.ensures (omega arith) w.changed.result w.if-marked.true w.changed.ensures) ∙ l.invariant | else-marked w ↦ ap rest w.states-is ∙ sym (row-unmarked a.message.now a.ask l.i _ _ k.result l.states k.ensures (omega arith) w.if-marked.false) ∙ l.invariant ]

pub returns : goal.returns
returns c = let l = c.loop-i in sym (applied-none _ _ _ _ (omega arith)) ∙ l.invariant
