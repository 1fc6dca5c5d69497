use Prim.Native.Nat.{◌%◌, ◌<◌}
use native.Mathlib.Nat.{mod-lt}
use Rattle.octets.specs.Octet.{octet}
use native.Mathlib.Omega.{arith}
use Rattle.isup_codec.proofs.circuit_of.Goals as goal

pub overflow_cast-result : goal.overflow_cast-result
overflow_cast-result c = omega (arith, c.type_inv.message 0)

pub overflow_cast-result-2 : goal.overflow_cast-result-2
overflow_cast-result-2 c = omega (arith, c.type_inv.message 1)

pub overflow_add-result : goal.overflow_add-result
overflow_add-result c = let h : octet c.args.message.now 1 % 16 < 16 = mod-lt _ (omega arith) in
    omega (arith, c.type_inv.message 0)
