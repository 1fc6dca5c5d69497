use Prim.Native.Nat.{ℕ}
use mathlib.Core.Path.{◌∙◌, ap}
use Rattle.octets.specs.Filled.{Done}
use Rattle.printing.specs.Sheet.{sheet, pour}
use Rattle.requests.proofs.Said.{number-at, octets-at}
use Rattle.lines.specs.Lines.{compact_line}
use Rattle.sccp_lines.proofs.say_compact.Goals as goal

pub returns : goal.returns
returns c =
    let a = c.args in
    let s = a.octets.now in
    let f = a.fields in
    let t = c.say_again.ensures ∙ ap (λ (x : Done ℕ). pour (sheet a.out.now 0) (compact_line x)) c.compact-written.ensures in
    rw (octets-at s f 0, number-at s f 1) (rw (c.front-buffer.ensures, c.blank_space-space.ensures.0, c.stretch.ensures) at t)
