use mathlib.Core.Path.{sym, ◌∙◌, ap}
use native.Mathlib.Omega.{arith}
use lib.Seq.{length-take-le}
use Rattle.words.proofs.Bounds.{word-within}
use Rattle.requests.specs.declared.Request.{Request}
use Rattle.requests.specs.Along.{taken}
use Rattle.requests.proofs.Found.{asked-nothing, row-most, found_none, found-row, found_first, found-longer}
use Rattle.taking.proofs.request_of.Goals as goal

pub returns-then-line-gt-LINE_MOST : goal.returns-then-line-gt-LINE_MOST
returns-then-line-gt-LINE_MOST c =
    let a = c.args in
    ap (λ (r : Request). taken r a.scratch.now) c.none.ensures ∙ asked-nothing a.line.now a.scratch.now c.if-line-gt-LINE_MOST.true

pub slice_bounds-form_of-end : goal.slice_bounds-form_of-end
slice_bounds-form_of-end c =
    let a = c.args in
    sym (length-take-le _ a.line.now (omega (arith, c.word_end-end.ensures, word-within a.line.now 0 (omega arith))))

pub returns-then-row-eq-BAD : goal.returns-then-row-eq-BAD
returns-then-row-eq-BAD c =
    let a = c.args in
    ap (λ (r : Request). taken r a.scratch.now) c.none-then-row-eq-BAD.ensures ∙ found_none a.line.now a.scratch.now _ _ c.if-line-gt-LINE_MOST.false c.word_end-end.ensures c.form_of-row.ensures c.if-row-eq-BAD.true

pub returns-then-longer-eq0 : goal.returns-then-longer-eq0
returns-then-longer-eq0 c =
    let a = c.args in
    c.fields_in.ensures ∙ found-row a.line.now a.scratch.now _ _ c.if-line-gt-LINE_MOST.false c.word_end-end.ensures c.form_of-row.ensures c.if-row-eq-BAD.false c.if-longer-eq0.true

pub overflow_add-other : goal.overflow_add-other
overflow_add-other c = omega (arith, row-most _ _ c.form_of-row.ensures)

pub returns-then-request-eq-BAD : goal.returns-then-request-eq-BAD
returns-then-request-eq-BAD c =
    let a = c.args in
    c.fields_in-then-request-eq-BAD.ensures ∙ found-longer a.line.now a.scratch.now _ _ c.if-line-gt-LINE_MOST.false c.word_end-end.ensures c.form_of-row.ensures c.if-row-eq-BAD.false _ _ c.fields_in-request.ensures c.if-longer-eq0.false c.if-request-eq-BAD.true

pub returns : goal.returns
returns c =
    let a = c.args in
    found_first a.line.now a.scratch.now _ _ c.if-line-gt-LINE_MOST.false c.word_end-end.ensures c.form_of-row.ensures c.if-row-eq-BAD.false _ _ c.fields_in-request.ensures c.if-request-eq-BAD.false
