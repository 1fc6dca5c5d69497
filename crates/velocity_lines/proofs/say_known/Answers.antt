use Rattle.std.specs.Prelude.{Result, Ok}
use Rattle.std.proofs.Common.{sym, ap, ◌∙◌}
use Rattle.octets.specs.declared.Refusal.{Refusal}
use Rattle.printing.specs.Sheet.{sheet, pour}
use Rattle.lines.proofs.Pouring.{and_then}
use Rattle.velocity.specs.declared.Known.{Known}
use Rattle.velocity.specs.Told.{known_told}
use Rattle.velocity_lines.specs.Velocities.{known_line}
use Rattle.velocity_lines.proofs.say_known.Goals as goal

pub returns-in-Ok-WithVertical : goal.returns-in-Ok-WithVertical
unfolding known_line
returns-in-Ok-WithVertical c =
    let a = c.args in
    let s = c.in-Ok-WithVertical in
    let t = and_then _ _ _ c.put_course-speed.ensures (rw c.whole.ensures at c.put_count-vertical.ensures) in
    and_then _ _ _ t c.put_mark.ensures ∙ ap (λ (x : Result Known Refusal). pour (sheet a.out.now 0) (known_line (known_told x))) (sym (s.is ∙ ap Ok (rw s.is at s.field-0-is)))
