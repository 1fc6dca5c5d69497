use mathlib.Core.Path.{refl, ◌∙◌, ap}
use mathlib.Core.List.{[]}
use borrow.Author.Tests.{lt-ltb, le-ltb, le-leb, lt-leb}
use Rattle.printing.specs.Sheet.{sheet}
use Rattle.busy_lines.specs.Busy.{BusyAfter, busy_left_by}
use Rattle.busy_lines.proofs.Determined.{busy-left-same}
use Rattle.further_lines.specs.Further.{further_done}
use Rattle.further_lines.proofs.Turned.{busy-any}
use Rattle.further_lines.proofs.further_turn.Goals as goal

pub returns-then-request-lt-BUSY : goal.returns-then-request-lt-BUSY
unfolding further_done
returns-then-request-lt-BUSY c = rw (lt-ltb _ _ c.if-request-lt-BUSY.true) (busy-left-same refl c.further_line.ensures)

pub returns-then-request-le-REBUILD : goal.returns-then-request-le-REBUILD
unfolding further_done
returns-then-request-le-REBUILD c =
    let a = c.args in
    rw (le-ltb _ _ c.if-request-lt-BUSY.false, le-leb _ _ c.if-request-le-REBUILD.true) (c.busy_turn.ensures ∙ ap (λ (x : BusyAfter). busy_left_by x (sheet a.out.now 0)) (busy-any a.states.now a.totals.now a.request.which [] a.octets.now a.request.fields))

pub returns : goal.returns
unfolding further_done
returns c = rw (le-ltb _ _ c.if-request-lt-BUSY.false, lt-leb _ _ c.if-request-le-REBUILD.false) (busy-left-same refl c.put_text.ensures)
