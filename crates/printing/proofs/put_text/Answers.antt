use mathlib.Core.Path.{sym, ◌∙◌}
use native.Mathlib.Numerals.{add-one}
use Rattle.printing.specs.Sheet.{sheet}
use Rattle.printing.proofs.Pours.{pour-done, pour-next}
use Rattle.printing.proofs.put_text.Goals as goal

pub loop-octet-preserved : goal.loop-octet-preserved
loop-octet-preserved c =
    let l = c.loop-octet in
    let p = c.put_octet-next in
    pour-next (sheet l.out l.next) (sheet p.new.out p.result) c.args.text.now l.octet-index _ c.loop-octet-test.true (add-one l.octet-index) p.ensures ∙ l.invariant

pub returns : goal.returns
returns c =
    let l = c.loop-octet in
    sym (pour-done (sheet l.out l.next) c.args.text.now l.octet-index c.loop-octet-test.false) ∙ l.invariant
