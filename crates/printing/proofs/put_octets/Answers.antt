use mathlib.Core.Path.{sym, ◌∙◌, ap}
use native.Mathlib.Numerals.{add-one}
use Rattle.printing.specs.Sheet.{sheet, pour}
use Rattle.printing.proofs.Pours.{hex-none, hex-some, hex-done, hex-next}
use Rattle.printing.proofs.put_octets.Goals as goal

pub returns-then-octets-eq0 : goal.returns-then-octets-eq0
returns-then-octets-eq0 c =
    let a = c.args in
    c.put_octet.ensures ∙ sym (hex-none (sheet a.out.now a.at) a.octets.now c.if-octets-eq0.true)

pub loop-octet-preserved : goal.loop-octet-preserved
loop-octet-preserved c =
    let l = c.loop-octet in
    let p = c.put_octet-next in
    let q = c.put_octet-next-in-loop-octet in
    hex-next (sheet l.out l.next) (sheet p.new.out p.result) (sheet q.new.out q.result) c.args.octets.now l.octet-index _ c.digit.result c.digit-in-loop-octet.result c.loop-octet-test.true (add-one l.octet-index) c.digit.ensures c.digit-in-loop-octet.ensures p.ensures q.ensures ∙ l.invariant

pub returns : goal.returns
returns c =
    let l = c.loop-octet in
    let a = c.args in
    sym (hex-done (sheet l.out l.next) a.octets.now l.octet-index c.loop-octet-test.false) ∙ l.invariant ∙ ap (pour (sheet a.out.now a.at)) (sym (hex-some a.octets.now c.if-octets-eq0.false))
