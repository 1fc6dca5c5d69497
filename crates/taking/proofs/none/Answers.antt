use mathlib.Core.Path.{refl}
use Rattle.taking.proofs.none.Goals as goal

pub returns : goal.returns
returns c = rw c.nowhere.ensures refl
