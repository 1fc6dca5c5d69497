use native.Mathlib.Omega.{arith}
use Rattle.day.specs.Day.{day}
use Rattle.tallies.proofs.Reported.{tally-none, tally-some}
use Rattle.tallies.proofs.tally_in.Goals as goal

pub returns-then-messages-eq0 : goal.returns-then-messages-eq0
returns-then-messages-eq0 c =
    let a = c.args in
    (tally-none (day a.owners.now a.states.now a.accepted.now a.refused.now) a.sender c.counter-taken.ensures.0 c.counter-kept.ensures.0 c.if-messages-eq0.true, record { messages = omega arith; accepted = omega arith; refused = omega arith; busy = omega arith })

pub returns : goal.returns
returns c =
    let a = c.args in
    let p = c.counter-taken.ensures in
    let q = c.counter-kept.ensures in
    let b = c.busy_of-busy.ensures in
    (tally-some (day a.owners.now a.states.now a.accepted.now a.refused.now) a.sender p.0 q.0 c.if-messages-eq0.false b.0, record { messages = omega arith; accepted = omega arith; refused = omega arith; busy = omega arith })
