use Rattle.lines.proofs.Pouring.{and_then}
use Rattle.velocity_lines.specs.Velocities.{codes_line}
use Rattle.velocity_lines.proofs.say_codes.Goals as goal

pub returns-in-Horizontal : goal.returns-in-Horizontal
unfolding codes_line
returns-in-Horizontal c = rw c.in-Horizontal.is (and_then _ _ _ c.put_count-bearing.ensures c.put_count.ensures)

pub returns-in-WithVertical : goal.returns-in-WithVertical
unfolding codes_line
returns-in-WithVertical c =
    let t = and_then _ _ _ c.put_count-bearing-in-WithVertical.ensures c.put_count-speed.ensures in
    rw c.in-WithVertical.is (and_then _ _ _ (and_then _ _ _ t c.put_count-vertical.ensures) c.put_mark.ensures)
