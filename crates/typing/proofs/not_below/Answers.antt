use borrow.Author.Tests.{lt-ltb, le-ltb}
use mathlib.Core.Path.{refl}
use Rattle.typing.proofs.not_below.Goals as goal

pub returns-then-value-least : goal.returns-then-value-least
returns-then-value-least c = rw (c.in-Some.is, lt-ltb _ _ c.if-value-least.true) refl

pub returns-else-value-least : goal.returns-else-value-least
returns-else-value-least c = rw (c.in-Some.is, le-ltb _ _ c.if-value-least.false) refl
