use Rattle.printing.specs.Sheet.{sheet}
use Rattle.printing.specs.Shown.{decimal_of}
use Rattle.lines.proofs.Pouring.{and_then}
use Rattle.tallies.proofs.Reported.{line-none, line-some}
use Rattle.tallies.proofs.put_sender.Goals as goal

pub returns-then-t-eq0 : goal.returns-then-t-eq0
returns-then-t-eq0 c =
    let a = c.args in line-none (sheet a.out.now a.at) a.sender a.t c.if-t-eq0.true

pub returns : goal.returns
returns c =
    let a = c.args in line-some (sheet a.out.now a.at) a.sender a.t c.if-t-eq0.false (and_then (sheet a.out.now a.at) (decimal_of a.sender) _ c.put_number-next.ensures c.put_numbers.ensures)
