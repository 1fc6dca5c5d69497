use mathlib.Core.Path.{sym}
use Rattle.printing.proofs.Pours.{digit_low, digit-high}
use Rattle.printing.proofs.digit.Goals as goal

pub returns-then-n-lt10 : goal.returns-then-n-lt10
returns-then-n-lt10 c = sym (digit_low c.args.n c.if-n-lt10.true)

pub returns : goal.returns
returns c = sym (digit-high c.args.n c.if-n-lt10.false)
