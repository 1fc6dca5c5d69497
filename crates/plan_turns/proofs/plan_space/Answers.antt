use Prim.Native.Nat.{ℕ}
use mathlib.Core.Path.{refl}
use lib.ListN.{length-replicate}
use Rattle.plan_lines.specs.Night.{plan_blank}
use Rattle.plan_turns.proofs.plan_space.Goals as goal

pub returns : goal.returns
unfolding plan_blank
returns c = (refl, length-replicate {A = ℕ} 36864 0)
