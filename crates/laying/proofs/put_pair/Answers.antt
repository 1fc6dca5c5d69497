use native.Mathlib.Omega.{arith}
use lib.ListN.{length-set}
use Rattle.planning.proofs.Puts.{pair-stored}
use Rattle.laying.proofs.put_pair.Goals as goal

pub shape_of-out : goal.shape_of-out
shape_of-out c = simp length-set (omega arith)

pub returns : goal.returns
returns c =
    let a = c.args in
    (pair-stored a.out.now _ _ a.at a.circuit a.status c.put_head.ensures c.put_range.ensures, omega arith)
