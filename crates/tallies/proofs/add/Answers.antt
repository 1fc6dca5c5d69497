use native.Mathlib.Omega.{arith}
use Rattle.tallies.proofs.Reported.{shown-none, shown-some}
use Rattle.tallies.proofs.add.Goals as goal

pub returns-then-more-eq0 : goal.returns-then-more-eq0
returns-then-more-eq0 c =
    let a = c.args in
    let b = c.requires.0 in
    (shown-none a.sums a.more c.if-more-eq0.true, record { messages = omega (arith, b.messages); accepted = omega (arith, b.accepted); refused = omega (arith, b.refused); busy = omega (arith, b.busy) })

pub returns : goal.returns
returns c =
    let a = c.args in
    let b = c.requires.0 in
    let d = c.requires.1 in
    (shown-some a.sums a.more c.if-more-eq0.false, record { messages = omega (arith, b.messages, d.messages); accepted = omega (arith, b.accepted, d.accepted); refused = omega (arith, b.refused, d.refused); busy = omega (arith, b.busy, d.busy) })
