use borrow.Author.Tests.{eq-eqb, ne_eqb}
use Rattle.requests.proofs.Said.{number-at, octets-at}
use Rattle.codec_lines.specs.Codec.{codec_line_lem}
use Rattle.codec_lines.proofs.codec_line.Goals as goal

pub returns-then-request-eq-SHAPE : goal.returns-then-request-eq-SHAPE
unfolding codec_line_lem
returns-then-request-eq-SHAPE c =
    let a = c.args in
    let s = a.octets.now in
    let f = a.request.fields in
    rw (eq-eqb _ _ c.if-request-eq-SHAPE.true, number-at s f 0) c.say_shape.ensures

pub returns-then-request-eq-READ : goal.returns-then-request-eq-READ
unfolding codec_line_lem
returns-then-request-eq-READ c =
    let a = c.args in
    let s = a.octets.now in
    let f = a.request.fields in
    rw (ne_eqb _ _ c.if-request-eq-SHAPE.false, eq-eqb _ _ c.if-request-eq-READ.true, octets-at s f 0) (rw c.stretch.ensures at c.say_read.ensures)

pub returns-then-request-eq-WRITE : goal.returns-then-request-eq-WRITE
unfolding codec_line_lem
returns-then-request-eq-WRITE c = rw (ne_eqb _ _ c.if-request-eq-SHAPE.false, ne_eqb _ _ c.if-request-eq-READ.false, eq-eqb _ _ c.if-request-eq-WRITE.true) c.say_write.ensures

pub returns-then-request-eq-COMPACT : goal.returns-then-request-eq-COMPACT
unfolding codec_line_lem
returns-then-request-eq-COMPACT c = rw (ne_eqb _ _ c.if-request-eq-SHAPE.false, ne_eqb _ _ c.if-request-eq-READ.false, ne_eqb _ _ c.if-request-eq-WRITE.false, eq-eqb _ _ c.if-request-eq-COMPACT.true) c.say_compact.ensures

pub returns : goal.returns
unfolding codec_line_lem
returns c = rw (ne_eqb _ _ c.if-request-eq-SHAPE.false, ne_eqb _ _ c.if-request-eq-READ.false, ne_eqb _ _ c.if-request-eq-WRITE.false, ne_eqb _ _ c.if-request-eq-COMPACT.false) c.say_find.ensures
