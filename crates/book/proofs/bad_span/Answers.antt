use native.Mathlib.Omega.{arith}
use Rattle.book.proofs.Spans.{bad-below, bad-back, bad-beyond, bad-nobody}
use Rattle.book.proofs.bad_span.Goals as goal

pub returns-then-first-next : goal.returns-then-first-next
returns-then-first-next c = let a = c.args in bad-below a.next a.first a.last a.sender (omega (arith, c.if-first-next.true))

pub returns-then-last-first : goal.returns-then-last-first
returns-then-last-first c =
    let a = c.args in
    bad-back a.next a.first a.last a.sender (omega (arith, c.if-first-next.false)) (omega (arith, c.if-last-first.true))

pub returns-then-last-gt4095 : goal.returns-then-last-gt4095
returns-then-last-gt4095 c =
    let a = c.args in
    bad-beyond a.next a.first a.last a.sender (omega (arith, c.if-first-next.false)) (omega (arith, c.if-last-first.false)) (omega (arith, c.if-last-gt4095.true))

pub returns : goal.returns
returns c =
    let a = c.args in
    bad-nobody a.next a.first a.last a.sender (omega (arith, c.if-first-next.false)) (omega (arith, c.if-last-first.false)) (omega (arith, c.if-last-gt4095.false))
