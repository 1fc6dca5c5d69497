use mathlib.Core.List.{[]}
use Rattle.requests.proofs.Said.{number-at}
use Rattle.table_lines.proofs.recount_asked.Goals as goal

pub returns : goal.returns
returns c =
    let f = c.args.request.fields in
    rw (number-at [] f 0, number-at [] f 1) c.recount.ensures
