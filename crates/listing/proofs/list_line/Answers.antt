use borrow.Author.Tests.{eq-eqb, ne_eqb}
use Rattle.requests.proofs.Said.{octets-at}
use Rattle.list_lines.specs.Lists.{list_line_lem}
use Rattle.listing.proofs.list_line.Goals as goal

pub returns-then-request-eq-LIST : goal.returns-then-request-eq-LIST
unfolding list_line_lem
returns-then-request-eq-LIST c =
    let a = c.args in
    rw (eq-eqb _ _ c.if-request-eq-LIST.true, octets-at a.octets.now a.request.fields 0) (rw c.stretch-message.ensures at c.say_isup.ensures)

pub returns-then-request-eq-BICC_LIST : goal.returns-then-request-eq-BICC_LIST
unfolding list_line_lem
returns-then-request-eq-BICC_LIST c =
    let a = c.args in
    rw (ne_eqb _ _ c.if-request-eq-LIST.false, eq-eqb _ _ c.if-request-eq-BICC_LIST.true, octets-at a.octets.now a.request.fields 0) (rw c.stretch-message.ensures at c.say_bicc.ensures)

pub returns : goal.returns
unfolding list_line_lem
returns c =
    let a = c.args in
    rw (ne_eqb _ _ c.if-request-eq-LIST.false, ne_eqb _ _ c.if-request-eq-BICC_LIST.false, octets-at a.octets.now a.request.fields 0) (rw c.stretch-message.ensures at c.say_sccp.ensures)
