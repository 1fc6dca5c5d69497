use Rattle.std.proofs.Common.{length, sym, ◌∙◌, arith}
use Rattle.number.specs.Contents.{coded_as}
use Rattle.dialling.proofs.Laws.{length-packed}
use Rattle.dialling.proofs.Writing.{write-nature, write-plan, write-internal, write-long, write-above, octets-there, write-no-room, write_done}
use Rattle.keying.proofs.write_number.Goals as goal

pub returns-then-nature-gt-LARGEST_NATURE : goal.returns-then-nature-gt-LARGEST_NATURE
returns-then-nature-gt-LARGEST_NATURE c = let a = c.args in write-nature a.nature a.plan a.internal a.signals.now a.out.now (omega arith)

pub returns-then-plan-gt-LARGEST_PLAN : goal.returns-then-plan-gt-LARGEST_PLAN
returns-then-plan-gt-LARGEST_PLAN c = let a = c.args in write-plan a.nature a.plan a.internal a.signals.now a.out.now (omega arith) (omega arith)

pub returns-then-internal-gt-LARGEST_INTERNAL : goal.returns-then-internal-gt-LARGEST_INTERNAL
returns-then-internal-gt-LARGEST_INTERNAL c = let a = c.args in write-internal a.nature a.plan a.internal a.signals.now a.out.now (omega arith) (omega arith) (omega arith)

pub returns-then-signals-gt-MOST_SIGNALS : goal.returns-then-signals-gt-MOST_SIGNALS
returns-then-signals-gt-MOST_SIGNALS c = let a = c.args in write-long a.nature a.plan a.internal a.signals.now a.out.now (omega arith) (omega arith) (omega arith) (omega arith)

pub returns-then-any_above_15 : goal.returns-then-any_above_15
returns-then-any_above_15 c =
    let a = c.args in
    write-above a.nature a.plan a.internal a.signals.now a.out.now (omega arith) (omega arith) (omega arith) (omega arith)
    (sym c.any_above_15.ensures ∙ c.if-any_above_15.true)

pub returns-then-out-length : goal.returns-then-out-length
returns-then-out-length c =
    let a = c.args in
    let x = coded_as a.nature a.plan a.internal a.signals.now in
    write-no-room a.nature a.plan a.internal a.signals.now a.out.now (length x) x
    (octets-there a.nature a.plan a.internal a.signals.now (omega arith) (omega arith) (omega arith) (omega arith) (sym c.any_above_15.ensures ∙ c.if-any_above_15.false))
    (omega (arith, length-packed a.signals.now))

pub returns : goal.returns
returns c =
    let a = c.args in
    let x = coded_as a.nature a.plan a.internal a.signals.now in
    write_done a.nature a.plan a.internal a.signals.now a.out.now (length x) x
    (octets-there a.nature a.plan a.internal a.signals.now (omega arith) (omega arith) (omega arith) (omega arith) (sym c.any_above_15.ensures ∙ c.if-any_above_15.false))
    _
    _
    (omega (arith, length-packed a.signals.now))
    (omega (arith, length-packed a.signals.now))
    c.write_signals.ensures
