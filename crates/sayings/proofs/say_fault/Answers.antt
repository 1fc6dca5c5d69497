use native.Mathlib.Omega.{arith}
use borrow.Author.Tests.{lt-ltb, le-ltb}
use Rattle.lines.specs.Lines.{fault_line}
use Rattle.lines.proofs.Pouring.{and_then}
use Rattle.sayings.proofs.say_fault.Goals as goal

pub returns-then-number-lt3 : goal.returns-then-number-lt3
unfolding fault_line
returns-then-number-lt3 c = rw (lt-ltb c.args.number 3 (omega (arith, c.if-number-lt3.true))) c.say_refusal-next.ensures

pub returns-then-number-gt8 : goal.returns-then-number-gt8
unfolding fault_line
returns-then-number-gt8 c = let n = c.args.number in rw (le-ltb n 3 (omega (arith, c.if-number-lt3.false)), lt-ltb 8 n (omega (arith, c.if-number-gt8.true))) c.say_refusal-next.ensures

pub returns : goal.returns
unfolding fault_line
returns c = let n = c.args.number in rw (le-ltb n 3 (omega (arith, c.if-number-lt3.false)), le-ltb 8 n (omega (arith, c.if-number-gt8.false))) (and_then _ _ _ c.say_refusal-next.ensures c.put_count.ensures)
