use Rattle.finding.proofs.Spots.{found_in}
use Rattle.locating.proofs.find.Goals as goal

pub returns : goal.returns
returns c = let a = c.args in found_in a.message _ a.name _ c.find_or_default.ensures
