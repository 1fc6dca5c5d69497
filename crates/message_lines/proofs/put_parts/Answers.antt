use Rattle.read_lines.specs.Read.{parts_line}
use Rattle.lines.proofs.Pouring.{and_then}
use Rattle.message_lines.proofs.put_parts.Goals as goal

pub returns : goal.returns
unfolding parts_line
returns c = let t1 = and_then _ _ _ (rw c.part.ensures at c.put_shown-fixed.ensures) (rw c.part-2.ensures at c.put_shown-first.ensures) in let t2 = and_then _ _ _ t1 (rw c.part-3.ensures at c.put_shown-second.ensures) in let t3 = and_then _ _ _ t2 (rw c.part-4.ensures at c.put_shown.ensures) in t3
