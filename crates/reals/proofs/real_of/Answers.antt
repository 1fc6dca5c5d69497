use Rattle.std.specs.Prelude.{Some}
use mathlib.Core.Path.{sym, ap, ◌∙◌}
use Rattle.decimals.specs.Decimals.{below_zero, pattern_of}
use Rattle.decimals.proofs.Glued.{real-empty, real-below, real-short, real-no-x, real-no-0, real-bits}
use Rattle.reals.proofs.real_of.Goals as goal

pub returns-then-word-eq0 : goal.returns-then-word-eq0
returns-then-word-eq0 c = real-empty c.args.word.now c.if-word-eq0.true

pub returns-in-None : goal.returns-in-None
returns-in-None c = ap below_zero (sym c.in-None.is) ∙ real-below c.args.word.now _ c.if-word-eq0.false c.if-word-eq45.true c.typed.ensures

pub returns-in-Some : goal.returns-in-Some
returns-in-Some c = ap below_zero (sym c.in-Some.is) ∙ real-below c.args.word.now _ c.if-word-eq0.false c.if-word-eq45.true c.typed.ensures

pub returns-then-word-ne18 : goal.returns-then-word-ne18
returns-then-word-ne18 c = real-short c.args.word.now c.if-word-eq0.false c.if-word-eq45.false c.if-word-ne18.true c.typed-then-word-ne18.ensures

pub returns-then-word-ne120 : goal.returns-then-word-ne120
returns-then-word-ne120 c = real-no-x c.args.word.now c.if-word-eq45.false c.if-word-ne18.false c.if-word-ne120.true c.typed-then-word-ne120.ensures

pub returns-then-word-ne48 : goal.returns-then-word-ne48
returns-then-word-ne48 c = real-no-0 c.args.word.now c.if-word-eq45.false c.if-word-ne18.false c.if-word-ne120.false c.if-word-ne48.true c.typed-then-word-ne48.ensures

pub returns-in-None-pattern_from : goal.returns-in-None-pattern_from
returns-in-None-pattern_from c = ap pattern_of (sym c.in-None-pattern_from.is) ∙ real-bits c.args.word.now _ c.if-word-ne18.false c.if-word-ne120.false c.if-word-ne48.false c.pattern_from.ensures

pub returns-in-Some-pattern_from : goal.returns-in-Some-pattern_from
returns-in-Some-pattern_from c =
    ap Some c.of_pattern.ensures ∙ ap pattern_of (sym c.in-Some-pattern_from.is) ∙ real-bits c.args.word.now _ c.if-word-ne18.false c.if-word-ne120.false c.if-word-ne48.false c.pattern_from.ensures
