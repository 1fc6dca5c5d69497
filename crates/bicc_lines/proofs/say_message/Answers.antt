use Rattle.bicc_lines.specs.Bicc.{code_line}
use Rattle.lines.proofs.Pouring.{and_then}
use Rattle.bicc_lines.proofs.say_message.Goals as goal

pub returns : goal.returns
unfolding code_line
returns c = let t1 = and_then _ _ _ c.put_count-code.ensures c.put_shown-kind.ensures in let t2 = and_then _ _ _ t1 c.put_parts.ensures in t2
