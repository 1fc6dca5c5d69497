use native.Mathlib.Omega.{arith}
use Rattle.bicc.proofs.Given.{code-four}
use Rattle.bicc_codec.proofs.code_of.Goals as goal

pub overflow_cast-a : goal.overflow_cast-a
overflow_cast-a c = omega (arith, c.type_inv.message 0)

pub overflow_cast-b : goal.overflow_cast-b
overflow_cast-b c = omega (arith, c.type_inv.message 1)

pub overflow_cast-c : goal.overflow_cast-c
overflow_cast-c c = omega (arith, c.type_inv.message 2)

pub overflow_cast-d : goal.overflow_cast-d
overflow_cast-d c = omega (arith, c.type_inv.message 3)

pub overflow_mul-result : goal.overflow_mul-result
overflow_mul-result c = omega (arith, c.type_inv.message 0, c.type_inv.message 1, c.type_inv.message 2, c.type_inv.message 3)

pub overflow_add-result : goal.overflow_add-result
overflow_add-result c = omega (arith, c.type_inv.message 0, c.type_inv.message 1, c.type_inv.message 2, c.type_inv.message 3)

pub overflow_mul-result-2 : goal.overflow_mul-result-2
overflow_mul-result-2 c = omega (arith, c.type_inv.message 0, c.type_inv.message 1, c.type_inv.message 2, c.type_inv.message 3)

pub overflow_add-result-2 : goal.overflow_add-result-2
overflow_add-result-2 c = omega (arith, c.type_inv.message 0, c.type_inv.message 1, c.type_inv.message 2, c.type_inv.message 3)

pub overflow_mul-result-3 : goal.overflow_mul-result-3
overflow_mul-result-3 c = omega (arith, c.type_inv.message 0, c.type_inv.message 1, c.type_inv.message 2, c.type_inv.message 3)

pub overflow_add-result-3 : goal.overflow_add-result-3
overflow_add-result-3 c = omega (arith, c.type_inv.message 0, c.type_inv.message 1, c.type_inv.message 2, c.type_inv.message 3)

pub returns : goal.returns
returns c = code-four c.args.message.now c.requires
