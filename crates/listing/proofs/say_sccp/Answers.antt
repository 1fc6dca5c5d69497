use mathlib.Core.Path.{◌∙◌, ap}
use Rattle.sccp.specs.Table.{sccp}
use Rattle.printing.specs.Sheet.{sheet, pour}
use Rattle.list_lines.proofs.Stepping.{begun-line}
use Rattle.listing.proofs.say_sccp.Goals as goal

pub returns : goal.returns
returns c =
    let a = c.args in
    (rw (c.refusal_sccp.ensures, c.sccp_place.ensures) at c.say_list.ensures) ∙ ap (pour (sheet a.out.now 0)) (begun-line sccp a.message.now)
