use Rattle.octets.proofs.Filled.{sets-filled}
use mathlib.Core.List.{[], ◌∷◌}
use Rattle.boundary.specs.Boundary.{given}
use borrow.Author.Tests.{lt-ltb, le-ltb}
use mathlib.Core.Path.{ap}
use Prim.Native.Nat.{ℕ}
use Rattle.llachurep.proofs.give_stretch.Goals as goal

pub returns-then-stretch-lt2 : goal.returns-then-stretch-lt2
returns-then-stretch-lt2 c = rw (lt-ltb _ _ c.if-stretch-lt2.true) (ap (λ (v : ℕ). given v c.args.stretch.now) c.refused.ensures)

pub returns : goal.returns
returns c = rw (le-ltb _ _ c.if-stretch-lt2.false) (ap (given c.args.holder) (sets-filled (c.args.at ∷ c.args.len ∷ []) c.args.stretch.now c.if-stretch-lt2.false))
