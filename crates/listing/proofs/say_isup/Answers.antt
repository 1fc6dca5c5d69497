use mathlib.Core.Path.{◌∙◌, ap}
use Rattle.isup.specs.Table.{isup}
use Rattle.printing.specs.Sheet.{sheet, pour}
use Rattle.list_lines.proofs.Stepping.{begun-line}
use Rattle.listing.proofs.say_isup.Goals as goal

pub returns : goal.returns
returns c =
    let a = c.args in
    (rw (c.refusal_isup.ensures, c.isup_place.ensures) at c.say_list.ensures) ∙ ap (pour (sheet a.out.now 0)) (begun-line isup a.message.now)
