use mathlib.Core.Path.{refl}
use native.Mathlib.Omega.{arith}
use lib.ListN.{length-set}
use Rattle.writing.proofs.Storing.{stored-turn, stored-all}
use Rattle.filling.proofs.put_all.Goals as goal

pub loop-j-init : goal.loop-j-init
loop-j-init c = (record { place = refl; made = refl }, omega arith, refl)

pub loop-j-preserved : goal.loop-j-preserved
loop-j-preserved c = let l = c.loop-j in
    let a = c.args in
    (stored-turn a.out.now l.out a.octets.now a.at l.j c.loop-j-test.true l.invariant.0, omega arith, simp length-set l.invariant.2)

pub returns : goal.returns
returns c = let l = c.loop-j in
    let a = c.args in
    let all = stored-all a.out.now l.out a.octets.now a.at l.j l.invariant.1 c.loop-j-test.false l.invariant.0 in
    record { place = refl; made = all.made }
