use native.Mathlib.Omega.{arith}
use Rattle.velocity.proofs.Glued.{read-refused, read-flat, read-up-refused, read_up}
use Rattle.courses.proofs.read.Goals as goal

pub returns-then-b-gt-LAST_BEARING : goal.returns-then-b-gt-LAST_BEARING
returns-then-b-gt-LAST_BEARING c = read-refused c.in-Horizontal.is (omega arith)

pub returns-then-b-gt-LAST_BEARING-2 : goal.returns-then-b-gt-LAST_BEARING-2
returns-then-b-gt-LAST_BEARING-2 c = read-up-refused c.in-WithVertical.is (omega arith)

pub returns-else-b-gt-LAST_BEARING : goal.returns-else-b-gt-LAST_BEARING
returns-else-b-gt-LAST_BEARING c = read-flat c.in-Horizontal.is (omega arith) c.course_of.ensures

pub returns-else-b-gt-LAST_BEARING-2 : goal.returns-else-b-gt-LAST_BEARING-2
returns-else-b-gt-LAST_BEARING-2 c = read_up c.in-WithVertical.is (omega arith) c.course_of-in-WithVertical.ensures
