use Prim.Native.Nat.{◌-◌}
use native.Mathlib.Omega.{arith}
use mathlib.Core.Path.{◌≡◌}
use Rattle.message_lines.proofs.part.Goals as goal

pub returns-then-to-from : goal.returns-then-to-from
returns-then-to-from c = let e : c.args.span.to - c.args.span.from ≡ 0 = omega arith in rw e c.stretch.ensures
