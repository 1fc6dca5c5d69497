use Rattle.lines.specs.Lines.{blank}
use lib.ListN.{length-replicate}
use Prim.Native.Nat.{ℕ}
use mathlib.Core.Path.{refl}
use Rattle.pieces.proofs.blank_space.Goals as goal

pub returns : goal.returns
unfolding blank
returns c = (refl, length-replicate {A = ℕ} 1024 0)
