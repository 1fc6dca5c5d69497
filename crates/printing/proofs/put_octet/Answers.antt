use mathlib.Core.Path.{sym}
use Rattle.printing.proofs.Pours.{put-here, put_full}
use Rattle.printing.proofs.put_octet.Goals as goal

pub returns-then-at-out : goal.returns-then-at-out
returns-then-at-out c =
    let a = c.args in sym (put-here a.out.now a.at a.octet c.if-at-out.true)

pub returns : goal.returns
returns c =
    let a = c.args in sym (put_full a.out.now a.at a.octet c.if-at-out.false)
