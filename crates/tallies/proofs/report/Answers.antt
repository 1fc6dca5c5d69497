use mathlib.Core.Bool.{not}
use mathlib.Core.Path.{sym, ◌∙◌, ap}
use borrow.Author.Tests.{not-true, not-false}
use lib.ListN.{length}
use Rattle.printing.specs.Sheet.{sheet, pour}
use Rattle.day.specs.Day.{day}
use Rattle.day.proofs.Told.{sized-true}
use Rattle.tallies.proofs.Reported.{report-unsized, report-lines, report-undone}
use Rattle.tallies.proofs.report.Goals as goal

pub returns-then-not-sized : goal.returns-then-not-sized
returns-then-not-sized c =
    let a = c.args in
    c.put_refusal.ensures ∙ ap (pour (sheet a.out.now 0)) (report-unsized a.place (day a.owners.now a.states.now a.accepted.now a.refused.now) (sym c.sized.ensures ∙ not-true _ (ap not c.if-not-sized.true)))

pub put_lines-requires : goal.put_lines-requires
put_lines-requires c =
    let a = c.args in
    sized-true (length a.owners.now) (length a.states.now) (length a.accepted.now) (length a.refused.now) (sym c.sized.ensures ∙ not-false _ (ap not c.if-not-sized.false))

pub returns-then-done : goal.returns-then-done
returns-then-done c =
    let a = c.args in
    c.put_lines.ensures ∙ ap (pour (sheet a.out.now 0)) (report-lines a.place (day a.owners.now a.states.now a.accepted.now a.refused.now) (sym c.sized.ensures ∙ not-false _ (ap not c.if-not-sized.false)) (sym c.done.ensures ∙ c.if-done.true))

pub returns : goal.returns
returns c =
    let a = c.args in
    c.put_refusal-2.ensures ∙ ap (pour (sheet a.out.now 0)) (report-undone a.place (day a.owners.now a.states.now a.accepted.now a.refused.now) (sym c.sized.ensures ∙ not-false _ (ap not c.if-not-sized.false)) (sym c.done.ensures ∙ c.if-done.false))
