use Prim.Native.Nat.{◌-◌}
use mathlib.Core.Path.{sym, ◌∙◌}
use native.Mathlib.Omega.{arith}
use lib.ListN.{length}
use Rattle.forms.proofs.Keys.{digits_more, letters-more, digits-fit, key-long, key-broken, key-whole, key-start}
use Rattle.forms.proofs.key.Goals as goal

pub returns-then-word-gt-WORD_MOST : goal.returns-then-word-gt-WORD_MOST
returns-then-word-gt-WORD_MOST c = key-long c.args.word.now c.if-word-gt-WORD_MOST.true

pub loop-i-init : goal.loop-i-init
loop-i-init c = key-start c.args.word.now (length c.args.word.now) (omega arith)

pub returns-then-digit-eq0 : goal.returns-then-digit-eq0
returns-then-digit-eq0 c = key-broken c.args.word.now (c.loop-i.i - 1) c.if-word-gt-WORD_MOST.false (omega arith) (sym c.letter-digit.ensures.0 ∙ c.if-digit-eq0.true)

pub overflow_mul-key : goal.overflow_mul-key
overflow_mul-key c = omega (arith, digits-fit c.args.word.now c.loop-i.i (c.loop-i.i - 1) (omega arith) (omega arith) c.if-word-gt-WORD_MOST.false, digits_more c.args.word.now c.loop-i.i (c.loop-i.i - 1) (omega arith) (omega arith), c.loop-i.invariant.0, c.letter-digit.ensures.0)

pub overflow_add-key : goal.overflow_add-key
overflow_add-key c = omega (arith, digits-fit c.args.word.now c.loop-i.i (c.loop-i.i - 1) (omega arith) (omega arith) c.if-word-gt-WORD_MOST.false, digits_more c.args.word.now c.loop-i.i (c.loop-i.i - 1) (omega arith) (omega arith), c.loop-i.invariant.0, c.letter-digit.ensures.0)

pub loop-i-preserved : goal.loop-i-preserved
loop-i-preserved c = (omega (arith, digits-fit c.args.word.now c.loop-i.i (c.loop-i.i - 1) (omega arith) (omega arith) c.if-word-gt-WORD_MOST.false, digits_more c.args.word.now c.loop-i.i (c.loop-i.i - 1) (omega arith) (omega arith), c.loop-i.invariant.0, c.letter-digit.ensures.0), letters-more c.args.word.now c.loop-i.i (c.loop-i.i - 1) (omega arith) (omega arith) (λ z. c.if-digit-eq0.false (c.letter-digit.ensures.0 ∙ z)) ∙ c.loop-i.invariant.1)

pub returns : goal.returns
returns c = c.loop-i.invariant.0 ∙ key-whole c.args.word.now c.loop-i.i (omega arith) c.if-word-gt-WORD_MOST.false c.loop-i.invariant.1
