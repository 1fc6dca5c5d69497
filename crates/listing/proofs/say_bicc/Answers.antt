use mathlib.Core.Path.{◌∙◌, ap}
use Rattle.bicc.specs.Table.{bicc}
use Rattle.printing.specs.Sheet.{sheet, pour}
use Rattle.list_lines.proofs.Stepping.{begun-line}
use Rattle.listing.proofs.say_bicc.Goals as goal

pub returns : goal.returns
returns c =
    let a = c.args in
    (rw (c.refusal_bicc.ensures, c.bicc_place.ensures) at c.say_list.ensures) ∙ ap (pour (sheet a.out.now 0)) (begun-line bicc a.message.now)
