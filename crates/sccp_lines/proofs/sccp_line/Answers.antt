use borrow.Author.Tests.{eq-eqb, ne_eqb}
use Rattle.requests.proofs.Said.{number-at, octets-at}
use Rattle.sccp_lines.specs.Sccp.{sccp_line_lem}
use Rattle.sccp_lines.proofs.sccp_line.Goals as goal

pub returns-then-request-eq-SCCP_SHAPE : goal.returns-then-request-eq-SCCP_SHAPE
unfolding sccp_line_lem
returns-then-request-eq-SCCP_SHAPE c =
    let a = c.args in
    let s = a.octets.now in
    let f = a.request.fields in
    rw (eq-eqb _ _ c.if-request-eq-SCCP_SHAPE.true, number-at s f 0) (rw c.shape_of.ensures at c.say_row.ensures)

pub returns-then-request-eq-SCCP_READ : goal.returns-then-request-eq-SCCP_READ
unfolding sccp_line_lem
returns-then-request-eq-SCCP_READ c =
    let a = c.args in
    let s = a.octets.now in
    let f = a.request.fields in
    rw (ne_eqb _ _ c.if-request-eq-SCCP_SHAPE.false, eq-eqb _ _ c.if-request-eq-SCCP_READ.true, octets-at s f 0) (rw c.stretch.ensures at c.say_read.ensures)

pub returns-then-request-eq-SCCP_WRITE : goal.returns-then-request-eq-SCCP_WRITE
unfolding sccp_line_lem
returns-then-request-eq-SCCP_WRITE c = rw (ne_eqb _ _ c.if-request-eq-SCCP_SHAPE.false, ne_eqb _ _ c.if-request-eq-SCCP_READ.false, eq-eqb _ _ c.if-request-eq-SCCP_WRITE.true) c.say_write.ensures

pub returns : goal.returns
unfolding sccp_line_lem
returns c = rw (ne_eqb _ _ c.if-request-eq-SCCP_SHAPE.false, ne_eqb _ _ c.if-request-eq-SCCP_READ.false, ne_eqb _ _ c.if-request-eq-SCCP_WRITE.false) c.say_compact.ensures
