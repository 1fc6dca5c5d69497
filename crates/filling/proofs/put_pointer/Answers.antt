use mathlib.Core.Path.{ap}
use native.Mathlib.Omega.{arith}
use lib.ListN.{length}
use Rattle.writing.specs.Inside.{pointer_if}
use Rattle.writing.proofs.Storing.{stored-pointer, stored-no-pointer}
use Rattle.measuring.proofs.Near.{not_beyond}
use Rattle.filling.proofs.put_pointer.Goals as goal

pub overflow_cast-pointer : goal.overflow_cast-pointer
overflow_cast-pointer c = let a = c.args in omega (arith, not_beyond a.wanted a.pointer c.requires.1 c.if-wanted.true)

pub put-requires : goal.put-requires
put-requires c = omega (arith, ap (λ w. length (pointer_if w c.args.pointer)) c.if-wanted.true, c.requires.0)

pub returns-then-wanted : goal.returns-then-wanted
returns-then-wanted c = stored-pointer c.args.wanted c.if-wanted.true c.put.ensures

pub returns : goal.returns
returns c = let a = c.args in stored-no-pointer a.out.now a.at a.pointer a.wanted c.if-wanted.false
