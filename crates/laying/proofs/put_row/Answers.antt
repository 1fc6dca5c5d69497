use Prim.Native.Nat.{◌-◌}
use native.Mathlib.Omega.{arith}
use Rattle.planning.proofs.Puts.{row-stored}
use Rattle.laying.proofs.put_row.Goals as goal

pub returns : goal.returns
returns c =
    let a = c.args in
    (row-stored a.out.now _ _ _ a.at a.circuit a.kind (a.n - 1) a.n c.put_head.ensures c.put_range.ensures c.put_ones.ensures, omega arith)
