use mathlib.Core.Path.{◌∙◌}
use native.Mathlib.Omega.{arith}
use Rattle.sccp.specs.Table.{sccp_shape_of}
use Rattle.sccp.proofs.Types.{table-says}
use Rattle.sccp_codec.proofs.shape_of.Goals as goal

-- the one test: antt computes that the code's table has the packed row of each of the 256 octets
pub returns : goal.returns
unfolding sccp_shape_of
returns c = c.row_of.ensures ∙ table-says c.args.kind (omega arith)
