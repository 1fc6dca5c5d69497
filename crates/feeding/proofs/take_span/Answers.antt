use mathlib.Core.Path.{sym, ◌∙◌}
use native.Mathlib.Omega.{arith}
use Rattle.book.proofs.Spans.{span-passed}
use Rattle.machine.proofs.Told.{span-refused, span-owned}
use Rattle.feeding.proofs.take_span.Goals as goal

pub returns-then-bad_span : goal.returns-then-bad_span
returns-then-bad_span c =
    let a = c.args in span-refused a.left a.next a.first a.last a.sender a.owners.now (sym c.bad_span.ensures ∙ c.if-bad_span.true)

pub spread_over-requires : goal.spread_over-requires
spread_over-requires c =
    let a = c.args in
    let p = span-passed a.next a.first a.last a.sender (sym c.bad_span.ensures ∙ c.if-bad_span.false) in
    (p.1, p.2, c.requires)

pub overflow_add-last : goal.overflow_add-last
overflow_add-last c =
    let a = c.args in
    let p = span-passed a.next a.first a.last a.sender (sym c.bad_span.ensures ∙ c.if-bad_span.false) in
    omega (arith, p.2)

pub returns : goal.returns
returns c =
    let a = c.args in
    span-owned a.left a.next a.first a.last a.sender a.owners.now (sym c.bad_span.ensures ∙ c.if-bad_span.false) c.one_less.ensures c.spans_await.ensures c.spread_over.ensures
