use Rattle.lines.proofs.Pouring.{and_then}
use Rattle.number_lines.specs.Numbers.{signals_line}
use Rattle.number_lines.proofs.say_values.Goals as goal

pub returns-in-Ok : goal.returns-in-Ok
unfolding signals_line
returns-in-Ok c =
    let t = and_then _ _ _ (and_then _ _ _ c.put_count-nature.ensures c.put_count-plan.ensures) c.put_count-internal.ensures in
    rw c.in-Ok.is (and_then _ _ _ t (rw c.stretch.ensures at c.put_shown.ensures))
