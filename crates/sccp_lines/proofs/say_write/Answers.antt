use Prim.Native.Nat.{ℕ}
use mathlib.Core.Path.{◌∙◌, ap}
use Rattle.octets.specs.Filled.{Done}
use Rattle.printing.specs.Sheet.{sheet, pour}
use Rattle.requests.proofs.Said.{number-at, octets-at}
use Rattle.lines.specs.Lines.{octets_line}
use Rattle.sccp_lines.proofs.say_write.Goals as goal

pub returns : goal.returns
returns c =
    let a = c.args in
    let s = a.octets.now in
    let f = a.fields in
    let t = c.say_written.ensures ∙ ap (λ (x : Done ℕ). pour (sheet a.out.now 0) (octets_line x)) c.write-written.ensures in
    rw (number-at s f 0, octets-at s f 1, octets-at s f 2, octets-at s f 3, octets-at s f 4, octets-at s f 5, number-at s f 6)
    (rw (c.front-buffer.ensures, c.blank_space-space.ensures.0, c.stretch.ensures, c.stretch-2.ensures, c.stretch-3.ensures, c.stretch-4.ensures, c.stretch-5.ensures) at t)
