use mathlib.Core.Path.{◌∙◌, ap}
use Rattle.octets.specs.Answer.{Answer}
use Rattle.finding.specs.Find.{Spot}
use Rattle.printing.specs.Sheet.{sheet, pour}
use Rattle.requests.proofs.Said.{number-at, octets-at}
use Rattle.codec_lines.specs.Codec.{found_line}
use Rattle.codec_lines.proofs.say_find.Goals as goal

pub returns : goal.returns
returns c =
    let a = c.args in
    let s = a.octets.now in
    let f = a.fields in
    let m = c.stretch-message.result.now in
    let d = c.stretch-defaults.result.now in
    let t = c.say_located.ensures ∙ ap (λ (x : Answer Spot). pour (sheet a.out.now 0) (found_line m d x)) c.locate-located.ensures in
    rw (octets-at s f 1, octets-at s f 2, number-at s f 0) (rw (c.stretch-message.ensures, c.stretch-defaults.ensures) at t)
