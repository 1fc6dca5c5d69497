use Rattle.std.proofs.Common.{arith}
use Rattle.number.specs.Read.{values_in}
use Rattle.number.specs.Contents.{signals_in}
use Rattle.number.proofs.Laws.{length-signals}
use Rattle.number.proofs.Reading.{read_short, read-empty, read-filler, read-long, number-there, values_same, read-no-room, read_done}
use Rattle.signals.proofs.read_number.Goals as goal

pub returns-then-contents-lt2 : goal.returns-then-contents-lt2
returns-then-contents-lt2 c = let a = c.args in read_short a.contents.now a.signals.now (omega arith)

pub returns-then-halves-odd : goal.returns-then-halves-odd
returns-then-halves-odd c = let a = c.args in read-empty a.contents.now a.signals.now (omega arith) (omega arith)

pub returns-then-filler-gt0 : goal.returns-then-filler-gt0
returns-then-filler-gt0 c = let a = c.args in read-filler a.contents.now a.signals.now (omega arith) (omega arith) (omega arith)

pub returns-then-count-gt-MOST_SIGNALS : goal.returns-then-count-gt-MOST_SIGNALS
returns-then-count-gt-MOST_SIGNALS c = let a = c.args in read-long a.contents.now a.signals.now (omega arith) (omega arith) (omega arith) (omega arith)

pub returns-then-signals-count : goal.returns-then-signals-count
returns-then-signals-count c =
    let a = c.args in
    read-no-room a.contents.now a.signals.now (values_in a.contents.now) (signals_in a.contents.now)
    (number-there a.contents.now (omega arith) (omega arith) (omega arith) (omega arith))
    (omega (arith, length-signals a.contents.now))

pub returns : goal.returns
returns c =
    let a = c.args in
    read_done a.contents.now a.signals.now (values_in a.contents.now) (signals_in a.contents.now)
    (number-there a.contents.now (omega arith) (omega arith) (omega arith) (omega arith))
    _
    _
    (omega (arith, length-signals a.contents.now))
    (values_same a.contents.now _ _ c.bit_8.ensures (let e = c.bit_8-odd.ensures in omega arith))
    c.read_signals.ensures
