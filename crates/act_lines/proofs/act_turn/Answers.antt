use mathlib.Core.Path.{◌∙◌, ap}
use Rattle.board.specs.Board.{BoardAfter}
use Rattle.printing.specs.Sheet.{sheet, pour}
use Rattle.requests.proofs.Said.{number-at, octets-at}
use Rattle.table_lines.specs.Tables.{desk_tables}
use Rattle.act_lines.specs.Acts.{act_line, act_turn_lem}
use Rattle.table_lines.proofs.Leaving.{left-same}
use Rattle.act_lines.proofs.act_turn.Goals as goal

pub returns : goal.returns
unfolding act_turn_lem
returns c =
    let a = c.args in
    let s = a.octets.now in
    let f = a.request.fields in
    let t = rw (c.front-buffer.ensures, c.blank_space-space.ensures.0, c.stretch.ensures) at c.act-acted.ensures in
    rw (number-at s f 0, octets-at s f 1, number-at s f 2)
    (left-same (ap (λ (x : BoardAfter). desk_tables x.states a.owners.now a.helpers.now x.totals) t) (c.say_acted.ensures ∙ ap (λ (x : BoardAfter). pour (sheet a.out.now 0) (act_line x)) t))
