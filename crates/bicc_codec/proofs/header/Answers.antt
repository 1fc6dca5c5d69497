use mathlib.Core.Path.{sym}
use native.Mathlib.Omega.{arith}
use lib.Seq.{take_all}
use Rattle.bicc_codec.proofs.header.Goals as goal

pub returns-then-message-lt4 : goal.returns-then-message-lt4
returns-then-message-lt4 c = sym (take_all 4 c.args.message.now (omega arith))
