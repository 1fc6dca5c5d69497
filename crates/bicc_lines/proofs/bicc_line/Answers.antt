use borrow.Author.Tests.{eq-eqb, ne_eqb}
use Rattle.requests.proofs.Said.{number-at, octets-at}
use Rattle.bicc_lines.specs.Bicc.{bicc_line_lem}
use Rattle.bicc_lines.proofs.bicc_line.Goals as goal

pub returns-then-request-eq-BICC_SHAPE : goal.returns-then-request-eq-BICC_SHAPE
unfolding bicc_line_lem
returns-then-request-eq-BICC_SHAPE c =
    let a = c.args in
    let s = a.octets.now in
    let f = a.request.fields in
    rw (eq-eqb _ _ c.if-request-eq-BICC_SHAPE.true, number-at s f 0) (rw c.shape_of.ensures at c.say_row.ensures)

pub returns-then-request-eq-BICC_READ : goal.returns-then-request-eq-BICC_READ
unfolding bicc_line_lem
returns-then-request-eq-BICC_READ c =
    let a = c.args in
    let s = a.octets.now in
    let f = a.request.fields in
    rw (ne_eqb _ _ c.if-request-eq-BICC_SHAPE.false, eq-eqb _ _ c.if-request-eq-BICC_READ.true, octets-at s f 0) (rw c.stretch.ensures at c.say_read.ensures)

pub returns-then-request-eq-BICC_WRITE : goal.returns-then-request-eq-BICC_WRITE
unfolding bicc_line_lem
returns-then-request-eq-BICC_WRITE c = rw (ne_eqb _ _ c.if-request-eq-BICC_SHAPE.false, ne_eqb _ _ c.if-request-eq-BICC_READ.false, eq-eqb _ _ c.if-request-eq-BICC_WRITE.true) c.say_write.ensures

pub returns : goal.returns
unfolding bicc_line_lem
returns c = rw (ne_eqb _ _ c.if-request-eq-BICC_SHAPE.false, ne_eqb _ _ c.if-request-eq-BICC_READ.false, ne_eqb _ _ c.if-request-eq-BICC_WRITE.false) c.say_compact.ensures
