use native.Mathlib.Omega.{arith}
use Rattle.decimals.proofs.Quotient.{typed, held}
use Rattle.reals.proofs.nearest.Goals as goal

pub int_to_float-result : goal.int_to_float-result
int_to_float-result c = held c.args.number c.requires.0

pub int_to_float-result-2 : goal.int_to_float-result-2
int_to_float-result-2 c = held c.args.scale c.requires.2

pub returns : goal.returns
returns c = typed c.args.number c.args.scale (omega arith) c.requires.1 (omega arith)
