use borrow.Author.Tests.{lt-ltb, le-ltb, le-leb, lt-leb}
use native.Mathlib.Omega.{arith}
use Rattle.words.specs.Digits.{value_of}
use Rattle.digits.proofs.value.Goals as goal

pub returns-then-digit-lt48 : goal.returns-then-digit-lt48
unfolding value_of
returns-then-digit-lt48 c = (simp (lt-ltb _ _ c.if-digit-lt48.true), omega arith)

pub returns-then-digit-le57 : goal.returns-then-digit-le57
unfolding value_of
returns-then-digit-le57 c = (simp (le-ltb _ _ c.if-digit-lt48.false, le-leb _ _ c.if-digit-le57.true), omega arith)

pub returns-then-digit-lt65 : goal.returns-then-digit-lt65
unfolding value_of
returns-then-digit-lt65 c = (simp (le-ltb _ _ c.if-digit-lt48.false, lt-leb _ _ c.if-digit-le57.false, lt-ltb _ _ c.if-digit-lt65.true), omega arith)

pub returns-then-digit-le70 : goal.returns-then-digit-le70
unfolding value_of
returns-then-digit-le70 c = (simp (le-ltb _ _ c.if-digit-lt48.false, lt-leb _ _ c.if-digit-le57.false, le-ltb _ _ c.if-digit-lt65.false, le-leb _ _ c.if-digit-le70.true), omega arith)

pub returns-then-digit-lt97 : goal.returns-then-digit-lt97
unfolding value_of
returns-then-digit-lt97 c = (simp (le-ltb _ _ c.if-digit-lt48.false, lt-leb _ _ c.if-digit-le57.false, le-ltb _ _ c.if-digit-lt65.false, lt-leb _ _ c.if-digit-le70.false, lt-ltb _ _ c.if-digit-lt97.true), omega arith)

pub returns-then-digit-le102 : goal.returns-then-digit-le102
unfolding value_of
returns-then-digit-le102 c = (simp (le-ltb _ _ c.if-digit-lt48.false, lt-leb _ _ c.if-digit-le57.false, le-ltb _ _ c.if-digit-lt65.false, lt-leb _ _ c.if-digit-le70.false, le-ltb _ _ c.if-digit-lt97.false, le-leb _ _ c.if-digit-le102.true), omega arith)

pub returns : goal.returns
unfolding value_of
returns c = (simp (le-ltb _ _ c.if-digit-lt48.false, lt-leb _ _ c.if-digit-le57.false, le-ltb _ _ c.if-digit-lt65.false, lt-leb _ _ c.if-digit-le70.false, le-ltb _ _ c.if-digit-lt97.false, lt-leb _ _ c.if-digit-le102.false), omega arith)
