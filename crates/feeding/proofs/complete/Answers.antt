use mathlib.Core.Path.{sym}
use lib.Seq.{length-take-le}
use Rattle.day.specs.Day.{day}
use Rattle.machine.proofs.Told.{come, come-span-count, come-span, come-entry-count, come-head, come-body, come-done, come-bad}
use Rattle.feeding.proofs.complete.Goals as goal

pub slice_bounds-heard_in-end : goal.slice_bounds-heard_in-end
slice_bounds-heard_in-end c =
    let h = rw c.in-Body.is at c.requires.0 in
    sym (length-take-le c.in-Body.size c.args.buffer.now h)

pub returns-in-SpanCount : goal.returns-in-SpanCount
returns-in-SpanCount c =
    let a = c.args in
    come a.buffer.now (day a.owners.now a.states.now a.accepted.now a.refused.now) c.in-SpanCount.is (come-span-count a.buffer.now (day a.owners.now a.states.now a.accepted.now a.refused.now) c.word.ensures c.spans_await.ensures)

pub returns-in-Span : goal.returns-in-Span
returns-in-Span c =
    let a = c.args in
    come a.buffer.now (day a.owners.now a.states.now a.accepted.now a.refused.now) c.in-Span.is (come-span a.buffer.now (day a.owners.now a.states.now a.accepted.now a.refused.now) _ _ c.word-in-Span.ensures c.word-in-Span-2.ensures c.take_span.ensures)

pub returns-in-MessageCount : goal.returns-in-MessageCount
returns-in-MessageCount c =
    let a = c.args in
    come a.buffer.now (day a.owners.now a.states.now a.accepted.now a.refused.now) c.in-MessageCount.is (come-entry-count a.buffer.now (day a.owners.now a.states.now a.accepted.now a.refused.now) c.word-in-MessageCount.ensures c.entries_await.ensures)

pub returns-in-Head : goal.returns-in-Head
returns-in-Head c =
    let a = c.args in
    come a.buffer.now (day a.owners.now a.states.now a.accepted.now a.refused.now) c.in-Head.is (come-head a.buffer.now (day a.owners.now a.states.now a.accepted.now a.refused.now) _ c.word-in-Head.ensures c.take_head.ensures)

pub returns-in-Body : goal.returns-in-Body
returns-in-Body c =
    let a = c.args in
    come a.buffer.now (day a.owners.now a.states.now a.accepted.now a.refused.now) c.in-Body.is (come-body a.buffer.now (day a.owners.now a.states.now a.accepted.now a.refused.now) _ _ _ c.heard_in.ensures c.one_less.ensures c.entries_await-in-Body.ensures)

pub returns-in-Done : goal.returns-in-Done
returns-in-Done c =
    let a = c.args in
    come a.buffer.now (day a.owners.now a.states.now a.accepted.now a.refused.now) c.in-Done.is (come-done a.buffer.now (day a.owners.now a.states.now a.accepted.now a.refused.now))

pub returns-in-Bad : goal.returns-in-Bad
returns-in-Bad c =
    let a = c.args in
    come a.buffer.now (day a.owners.now a.states.now a.accepted.now a.refused.now) c.in-Bad.is (come-bad a.buffer.now (day a.owners.now a.states.now a.accepted.now a.refused.now))
