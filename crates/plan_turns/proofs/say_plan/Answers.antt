use Prim.Native.Nat.{ℕ}
use mathlib.Core.Path.{◌∙◌, ap}
use Rattle.octets.specs.Filled.{Done}
use Rattle.printing.specs.Sheet.{sheet, pour}
use Rattle.lines.specs.Lines.{octets_line}
use Rattle.plan_turns.proofs.say_plan.Goals as goal

pub returns : goal.returns
returns c =
    let a = c.args in
    let t = rw (c.front-buffer.ensures, c.plan_space-space.ensures.0) at c.plan-written.ensures in
    c.say_written.ensures ∙ ap (λ (d : Done ℕ). pour (sheet a.out.now 0) (octets_line d)) t
