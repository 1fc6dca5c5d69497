-- Each step reads one half, or has none left to read.
use Rattle.std.proofs.Common.{◌+◌, ◌*◌, sym, arith}
use Rattle.number.proofs.Laws.{signal-low, signal-high}
use Rattle.number.proofs.Steps.{read_none, read_more}
use Rattle.signals.proofs.+read_high_read_low.Goals as goal

pub read_high-returns-then-left-eq0 : goal.read_high-returns-then-left-eq0
read_high-returns-then-left-eq0 t c =
    let a = c.args in read_none a.contents.now.now a.signals.now (2 * a.at + 1) (omega arith)

pub read_high-returns : goal.read_high-returns
read_high-returns t c =
    let a = c.args in
    read_more a.contents.now.now a.signals.now (2 * a.at + 1) (2 * (a.at + 1)) _ (omega arith) (omega arith) c.read_low.ensures (sym (signal-high a.contents.now.now a.at (omega arith)))

pub read_low-returns-then-left-eq0 : goal.read_low-returns-then-left-eq0
read_low-returns-then-left-eq0 t c =
    let a = c.args in read_none a.contents.now.now a.signals.now (2 * a.at) (omega arith)

pub read_low-returns : goal.read_low-returns
read_low-returns t c =
    let a = c.args in
    read_more a.contents.now.now a.signals.now (2 * a.at) (2 * a.at + 1) _ (omega arith) (omega arith) c.read_high.ensures (sym (signal-low a.contents.now.now a.at (omega arith)))
