use Rattle.asks.specs.Asks.{broken_range}
use Rattle.octets.proofs.Tests.{tests}
use native.Mathlib.Omega.{arith}
use Rattle.asking.proofs.ask_range.Goals as goal

pub returns-then-contents-from-ne1 : goal.returns-then-contents-from-ne1
unfolding broken_range
returns-then-contents-from-ne1 c = search tests

pub overflow_cast-range : goal.overflow_cast-range
overflow_cast-range c = omega (arith, c.type_inv.message c.args.contents.from)

pub returns-then-range-least : goal.returns-then-range-least
unfolding broken_range
returns-then-range-least c = search tests

pub returns-then-range-gt-MOST_RANGE : goal.returns-then-range-gt-MOST_RANGE
unfolding broken_range
returns-then-range-gt-MOST_RANGE c = search tests

pub returns-then-circuit-range : goal.returns-then-circuit-range
unfolding broken_range
returns-then-circuit-range c = search tests

pub returns : goal.returns
unfolding broken_range
returns c = search tests
