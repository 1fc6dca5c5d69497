use mathlib.Core.Bool.{not}
use mathlib.Core.Path.{ap}
use borrow.Author.Tests.{not-true, not-false}
use mathlib.Core.Path.{refl, sym, ◌∙◌}
use native.Mathlib.Numerals.{add-one}
use lib.ListN.{length}
use Rattle.day.specs.Day.{day}
use Rattle.day.proofs.Told.{sized-true}
use Rattle.machine.specs.Machine.{machine_of}
use Rattle.machine.proofs.Told.{fits-ready, feed-unsized, feed-unfit, feed-all, feed-next, feed-done, stored_next, stored-done}
use Rattle.feeding.proofs.feed.Goals as goal

pub returns-then-not-sized : goal.returns-then-not-sized
returns-then-not-sized c =
    let a = c.args in feed-unsized a.place a.buffer.now (day a.owners.now a.states.now a.accepted.now a.refused.now) a.chunk.now (sym c.sized.ensures ∙ not-true _ (ap not c.if-not-sized.true))

pub returns-then-not-ready : goal.returns-then-not-ready
returns-then-not-ready c =
    let a = c.args in feed-unfit a.place a.buffer.now (day a.owners.now a.states.now a.accepted.now a.refused.now) a.chunk.now (sym c.sized.ensures ∙ not-false _ (ap not c.if-not-sized.false)) (sym c.ready.ensures ∙ not-true _ (ap not c.if-not-ready.true))

pub loop-octet-init : goal.loop-octet-init
loop-octet-init c =
    let a = c.args in (fits-ready a.place (length a.buffer.now) (sym c.ready.ensures ∙ not-false _ (ap not c.if-not-ready.false)), refl, refl)

pub step-at-requires : goal.step-at-requires
step-at-requires c =
    let l = c.loop-octet in
    let a = c.args in
    let n = sized-true (length a.owners.now) (length a.states.now) (length a.accepted.now) (length a.refused.now) (sym c.sized.ensures ∙ not-false _ (ap not c.if-not-sized.false)) in
    (l.invariant.0, l.auto.owners ∙ n.0)

pub loop-octet-preserved : goal.loop-octet-preserved
loop-octet-preserved c =
    let l = c.loop-octet in
    let a = c.args in
    let s = c.step-at in
    (s.ensures.1, stored_next (machine_of l.at l.buffer (day l.owners l.states l.accepted l.refused)) _ l.buffer _ a.chunk.now l.octet-index _ c.loop-octet-test.true (add-one l.octet-index) s.ensures.0 s.ensures.2 ∙ l.invariant.1, feed-next (machine_of l.at l.buffer (day l.owners l.states l.accepted l.refused)) _ a.chunk.now l.octet-index _ c.loop-octet-test.true (add-one l.octet-index) s.ensures.0 ∙ l.invariant.2)

pub returns : goal.returns
returns c =
    let l = c.loop-octet in
    let a = c.args in
    let m = machine_of l.at l.buffer (day l.owners l.states l.accepted l.refused) in
    feed-all a.place a.buffer.now (day a.owners.now a.states.now a.accepted.now a.refused.now) a.chunk.now
    (sym c.sized.ensures ∙ not-false _ (ap not c.if-not-sized.false))
    (sym c.ready.ensures ∙ not-false _ (ap not c.if-not-ready.false))
    l.invariant.0
    (sym (feed-done m a.chunk.now l.octet-index c.loop-octet-test.false) ∙ l.invariant.2)
    (sym (stored-done m l.buffer a.chunk.now l.octet-index c.loop-octet-test.false) ∙ l.invariant.1)
