use native.Mathlib.Omega.{arith}
use Rattle.reading.proofs.pointers_end.Goals as goal

pub returns-then-shape : goal.returns-then-shape
returns-then-shape c = simp c.if-shape.true

pub returns-else-shape : goal.returns-else-shape
returns-else-shape c = simp c.if-shape.false (omega arith)
