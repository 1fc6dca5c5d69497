use Rattle.std.specs.Prelude.{is_some}
use mathlib.Core.Path.{sym, ap, ◌∙◌}
use Rattle.rights.proofs.Given.{against-none}
use Rattle.permits.proofs.against.Goals as goal

pub returns-then-is_none : goal.returns-then-is_none
returns-then-is_none c =
    let a = c.args in
    against-none a.owners.now a.helpers.now a.sender a.ask (ap is_some (sym c.first_unowned.ensures) ∙ c.if-is_none.ensures)
