use Prim.Native.Nat.{◌+◌, ◌-◌}
use mathlib.Core.Path.{refl, sym, ◌∙◌, ap}
use native.Mathlib.Omega.{arith}
use Rattle.printing.specs.Sheet.{sheet, pour}
use Rattle.tallies.specs.declared.Tally.{Tally}
use Rattle.day.specs.Day.{day}
use Rattle.tallies.specs.Lines.{added, line_of, shown_of}
use Rattle.tallies.specs.Reports.{tally_in_lem}
use Rattle.tallies.proofs.Reported.{lines_more, lines-done, sums-more, sums-done, sums-begin, lines-all, shown-line, shown-shown}
use Rattle.tallies.proofs.put_lines.Goals as goal

pub loop-sender-init : goal.loop-sender-init
loop-sender-init c = (refl, record { messages = omega arith; accepted = omega arith; refused = omega arith; busy = omega arith }, refl, sums-begin (tally_in_lem (let a = c.args in day a.owners.now a.states.now a.accepted.now a.refused.now)))

pub overflow_cast-q : goal.overflow_cast-q
overflow_cast-q c = omega arith

pub add-sums-requires : goal.add-sums-requires
add-sums-requires c = (c.loop-sender.invariant.1, c.tally_in-t.ensures.1, omega arith)

pub loop-sender-preserved : goal.loop-sender-preserved
loop-sender-preserved c =
    let l = c.loop-sender in
    let a = c.args in
    let f = tally_in_lem (day a.owners.now a.states.now a.accepted.now a.refused.now) in
    let t = c.tally_in-t.ensures.0 in
    let p = c.put_sender-next in (
      p.auto.out ∙ l.invariant.0,
      c.add-sums.ensures.1,
      lines_more f (sheet l.out l.next) l.sender (256 - l.sender) (l.sender + 1) (256 - (l.sender + 1)) (omega arith) (omega arith) (p.ensures ∙ ap (λ (x : Tally). pour (sheet l.out l.next) (line_of l.sender x)) t ∙ ap (pour (sheet l.out l.next)) (shown-line l.sender (f l.sender))) ∙ l.invariant.2,
      sums-more f l.sums l.sender (256 - l.sender) (l.sender + 1) (256 - (l.sender + 1)) (omega arith) (omega arith) (c.add-sums.ensures.0 ∙ ap (λ (x : Tally). added l.sums (shown_of x)) t ∙ ap (added l.sums) (shown-shown (f l.sender))) ∙ l.invariant.3,
    )

pub returns : goal.returns
returns c =
    let l = c.loop-sender in
    let a = c.args in
    let f = tally_in_lem (day a.owners.now a.states.now a.accepted.now a.refused.now) in
    lines-all f (sheet a.out.now 0) l.sums (sym (lines-done f (sheet l.out l.next) l.sender (256 - l.sender) (omega arith)) ∙ l.invariant.2) c.put_text-all.ensures c.put_numbers.ensures (sym (sums-done f l.sums l.sender (256 - l.sender) (omega arith)) ∙ l.invariant.3)
