use Rattle.sccp_lines.specs.Sccp.{type_line}
use Rattle.lines.proofs.Pouring.{and_then}
use Rattle.sccp_lines.proofs.say_message.Goals as goal

pub returns : goal.returns
unfolding type_line
returns c = and_then _ _ _ c.put_shown-kind.ensures c.put_three.ensures
