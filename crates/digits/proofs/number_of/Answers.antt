use Rattle.words.specs.Words.{number_of}
use Rattle.words.proofs.Steps.{digit-none, digit-past, digit-more, digits-ended, number_digits}
use borrow.Author.Tests.{lt-ltb, eq-eqb, ne_eqb}
use native.Mathlib.Omega.{arith}
use mathlib.Core.Path.{refl, sym, ◌∙◌}
use Rattle.digits.proofs.number_of.Goals as goal

pub returns-then-word-eq0 : goal.returns-then-word-eq0
unfolding number_of
returns-then-word-eq0 c = rw (eq-eqb _ _ c.if-word-eq0.true) refl

pub returns-then-word-gt10 : goal.returns-then-word-gt10
unfolding number_of
returns-then-word-gt10 c = rw (ne_eqb _ _ c.if-word-eq0.false, lt-ltb _ _ c.if-word-gt10.true) refl

pub loop-octet-init : goal.loop-octet-init
loop-octet-init c = (omega arith, number_digits _ _ c.if-word-eq0.false c.if-word-gt10.false)

pub returns-then-digit-gt9 : goal.returns-then-digit-gt9
returns-then-digit-gt9 c =
    let l = c.loop-octet in
    sym (digit-none c.args.word.now l.octet-index (omega arith) c.args.most l.number (omega arith)) ∙ l.invariant.1

pub returns-then-most-number : goal.returns-then-most-number
returns-then-most-number c =
    let l = c.loop-octet in
    sym (digit-past c.args.word.now l.octet-index (omega arith) c.args.most l.number (omega arith) (omega arith)) ∙ l.invariant.1

pub loop-octet-preserved : goal.loop-octet-preserved
loop-octet-preserved c =
    let l = c.loop-octet in
    (omega arith, rw c.value-digit.ensures.0 (sym (digit-more c.args.word.now l.octet-index (omega arith) c.args.most l.number (omega arith) (omega arith)) ∙ l.invariant.1))

pub returns : goal.returns
returns c =
    let l = c.loop-octet in
    sym (digits-ended c.args.word.now l.octet-index c.args.most l.number (omega arith)) ∙ l.invariant.1
