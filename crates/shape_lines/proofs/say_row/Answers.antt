use Rattle.std.specs.Prelude.{Option}
use Rattle.layout.specs.declared.Shape.{Shape}
use Rattle.printing.specs.Sheet.{sheet, pour}
use Rattle.read_lines.specs.Read.{shape_line, optional_word}
use Rattle.lines.proofs.Pouring.{and_then}
use mathlib.Core.Path.{sym, ◌∙◌, ap}
use Rattle.shape_lines.proofs.say_row.Goals as goal

pub returns-then-shape : goal.returns-then-shape
unfolding shape_line
returns-then-shape c = (let t1 = and_then _ _ _ c.put_count-fixed.ensures c.put_count-variable.ensures in let t2 = and_then _ _ _ t1 (rw (← ap optional_word c.if-shape.true) at c.put_text.ensures) in t2) ∙ ap (λ (x : Option Shape). pour (sheet c.args.out.now 0) (shape_line x)) (sym c.in-Some.is)

pub returns-in-None : goal.returns-in-None
unfolding shape_line
returns-in-None c = (rw c.number.ensures at c.say_refusal.ensures) ∙ ap (λ (x : Option Shape). pour (sheet c.args.out.now 0) (shape_line x)) (sym c.in-None.is)

pub returns-else-shape : goal.returns-else-shape
unfolding shape_line
returns-else-shape c = (let t1 = and_then _ _ _ c.put_count-fixed.ensures c.put_count-variable.ensures in let t2 = and_then _ _ _ t1 (rw (← ap optional_word c.if-shape.false) at c.put_text-in-Some.ensures) in t2) ∙ ap (λ (x : Option Shape). pour (sheet c.args.out.now 0) (shape_line x)) (sym c.in-Some.is)
