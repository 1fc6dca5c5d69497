use Rattle.lines.proofs.Pouring.{and_then}
use Rattle.velocity_lines.specs.Velocities.{course_line}
use Rattle.velocity_lines.proofs.put_course.Goals as goal

pub returns : goal.returns
unfolding course_line
returns c = and_then _ _ _ (rw c.whole.ensures at c.put_count-bearing.ensures) (rw c.whole-2.ensures at c.put_count.ensures)
