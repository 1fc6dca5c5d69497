use mathlib.Core.Path.{◌∙◌}
use Rattle.sccp_lines.specs.Sccp.{three_line}
use Rattle.lines.proofs.Pouring.{and_then}
use Rattle.sccp_lines.proofs.put_three.Goals as goal

pub shape_of-out : goal.shape_of-out
shape_of-out c = c.put_shown.auto.out ∙ c.put_shown-third.auto.out ∙ c.put_shown-second.auto.out ∙ c.put_shown-first.auto.out ∙ c.put_shown-fixed.auto.out

pub returns : goal.returns
unfolding three_line
returns c =
    let t1 = and_then _ _ _ (rw c.part.ensures at c.put_shown-fixed.ensures) (rw c.part-2.ensures at c.put_shown-first.ensures) in
    let t2 = and_then _ _ _ t1 (rw c.part-3.ensures at c.put_shown-second.ensures) in
    let t3 = and_then _ _ _ t2 (rw c.part-4.ensures at c.put_shown-third.ensures) in
    and_then _ _ _ t3 (rw c.part-5.ensures at c.put_shown.ensures)
