use Prim.Native.Nat.{◌%◌}
use mathlib.Core.Path.{refl}
use native.Mathlib.Omega.{arith}
use Rattle.marks.proofs.Shifts.{shifted, shift-positive, rest-small}
use Rattle.marks.proofs.cut.Goals as goal

pub nonzero_rem-result : goal.nonzero_rem-result
nonzero_rem-result c = shift-positive _ (omega arith)

pub overflow_cast-result-2 : goal.overflow_cast-result-2
overflow_cast-result-2 c = record { fits = rest-small _ _ (omega arith) }

pub returns : goal.returns
returns c = rw (shifted (c.args.range % 8) (omega arith)) refl
