use Prim.Native.Nat.{ℕ, ◌+◌, ◌-◌}
use mathlib.Core.Path.{sym, ◌∙◌, ap}
use mathlib.Core.List.{List}
use native.Mathlib.Omega.{arith}
use Rattle.octets.specs.Answer.{Answer}
use Rattle.plans.specs.Check.{seeing}
use Rattle.plans.proofs.Steps.{marking, see-done, see-marked, see-twice, see-unmarked}
use Rattle.checking.proofs.see.Goals as goal
use Rattle.checking.proofs.see.Goals.{then-marked+else-seen-c-ne0, else-marked}

pub returns-then-seen-c-ne0 : goal.returns-then-seen-c-ne0
returns-then-seen-c-ne0 c =
    let l = c.loop-i in
    let k = c.marked in
    let a = c.args in
    sym (see-twice a.message.now a.ask.circuit a.ask.status l.i (a.ask.range + 1 - l.i) (a.ask.range - l.i) l.seen k.result (omega arith) k.ensures c.if-marked.true c.if-seen-c-ne0.true) ∙ l.invariant

pub loop-i-preserved : goal.loop-i-preserved
loop-i-preserved c =
    let l = c.loop-i in
    let k = c.marked in
    let a = c.args in
    let n = a.ask.range + 1 - l.i in
    let left = a.ask.range + 1 - (l.i + 1) in
    let rest : List ℕ → Answer (List ℕ) = seeing (marking a.message.now a.ask.circuit a.ask.status) (a.ask.circuit + (l.i + 1)) left in
    elim c.if-marked.branch [ then-marked+else-seen-c-ne0 w ↦ ap rest w.seen-is ∙ sym (see-marked a.message.now a.ask.circuit a.ask.status l.i n left l.seen k.result (omega arith) k.ensures w.if-marked.true w.if-seen-c-ne0.false) ∙ l.invariant | else-marked w ↦ ap rest w.seen-is ∙ sym (see-unmarked a.message.now a.ask.circuit a.ask.status l.i n left l.seen k.result (omega arith) k.ensures w.if-marked.false) ∙ l.invariant ]

pub returns : goal.returns
returns c =
    let l = c.loop-i in
    let a = c.args in
    sym (see-done a.message.now a.ask.circuit a.ask.status (a.ask.circuit + l.i) (a.ask.range + 1 - l.i) l.seen (omega arith)) ∙ l.invariant
