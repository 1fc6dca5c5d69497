use mathlib.Core.Path.{◌∙◌, ap}
use mathlib.Core.List.{[]}
use Rattle.board.specs.Board.{BoardAfter}
use Rattle.printing.specs.Sheet.{sheet, pour}
use Rattle.requests.proofs.Said.{number-at}
use Rattle.block_lines.specs.Blocks.{notice_line, block_done}
use Rattle.block_lines.proofs.Determined.{blocked-same}
use Rattle.block_lines.proofs.block_turn.Goals as goal

pub returns : goal.returns
unfolding block_done
returns c =
    let a = c.args in
    let f = a.request.fields in
    let t = rw (c.front-buffer.ensures, c.blank_space-space.ensures.0) at c.desk_call-noticed.ensures in
    rw (number-at [] f 0, number-at [] f 1)
    (blocked-same (ap (λ (x : BoardAfter). x.states) t) (ap (λ (x : BoardAfter). x.totals) t) (c.say_noticed.ensures ∙ ap (λ (x : BoardAfter). pour (sheet a.out.now 0) (notice_line x.answer x.buffer)) t))
