use Rattle.words.proofs.Steps.{word-space, word_more, word-ended}
use native.Mathlib.Omega.{arith}
use Rattle.digits.proofs.word_end.Goals as goal

pub returns-then-line-at-eq32 : goal.returns-then-line-at-eq32
returns-then-line-at-eq32 c = omega (arith, word-space c.args.line.now c.loop-at.at (omega arith) c.if-line-at-eq32.true, c.loop-at.invariant)

pub loop-at-preserved : goal.loop-at-preserved
loop-at-preserved c = omega (arith, word_more c.args.line.now c.loop-at.at (omega arith) c.if-line-at-eq32.false, c.loop-at.invariant)

pub returns : goal.returns
returns c =
    let line = c.args.line.now in
    grind (arith, word-ended line c.loop-at.at (omega arith), word-ended line c.args.from, c.loop-at.invariant)
