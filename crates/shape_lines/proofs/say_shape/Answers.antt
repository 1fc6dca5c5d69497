use Rattle.std.specs.Prelude.{Option}
use Rattle.layout.specs.declared.Shape.{Shape}
use mathlib.Core.Path.{◌∙◌, ap}
use Rattle.printing.specs.Sheet.{sheet, pour}
use Rattle.read_lines.specs.Read.{shape_line}
use Rattle.shape_lines.proofs.say_shape.Goals as goal

pub returns : goal.returns
returns c = let a = c.args in
    c.say_row.ensures ∙ ap (λ (x : Option Shape). pour (sheet a.out.now 0) (shape_line x)) c.shape_of.ensures
