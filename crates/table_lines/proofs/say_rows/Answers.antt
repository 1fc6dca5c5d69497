use mathlib.Core.List.{[]}
use Rattle.requests.proofs.Said.{number-at}
use Rattle.table_lines.proofs.say_rows.Goals as goal

pub returns : goal.returns
returns c =
    let f = c.args.request.fields in
    rw (number-at [] f 0, number-at [] f 1) (rw (c.stretch.ensures, c.span-count.ensures) at c.put_shown.ensures)
