use mathlib.Core.Path.{◌∙◌}
use Rattle.finding.proofs.Given.{handed_on, refused-located, read-located}
use Rattle.locating.proofs.locate.Goals as goal

pub returns-in_err-x : goal.returns-in_err-x
returns-in_err-x c =
    rw (handed_on _ _ c.from_residual.ensures.1) (let a = c.args in refused-located a.message.now _ c.read.ensures a.defaults.now a.name _ c.in_err-x.was)

pub returns : goal.returns
returns c = let a = c.args in c.locate_in.ensures ∙ read-located a.message.now _ c.read.ensures a.defaults.now a.name _ c.in_ok-x.was
