use Rattle.octets.proofs.Told.{handed_on}
use Rattle.isup.proofs.Given.{read-long, read-laid, read-broken}
use Rattle.isup_codec.proofs.read.Goals as goal

pub circuit_of-requires : goal.circuit_of-requires
circuit_of-requires c = read-long c.args.message.now _ _ _ c.kind_at-kind.ensures c.shape_of.ensures c.read_parts.ensures _ c.in_ok-parts.was

pub returns : goal.returns
returns c = read-laid c.args.message.now _ _ _ c.kind_at-kind.ensures c.shape_of.ensures c.read_parts.ensures _ _ c.in_ok-parts.was c.circuit_of.ensures

pub returns-in_err-parts : goal.returns-in_err-parts
returns-in_err-parts c =
    rw (handed_on _ _ c.from_residual.ensures.1) (read-broken c.args.message.now _ _ _ c.kind_at-kind.ensures c.shape_of.ensures c.read_parts.ensures _ c.in_err-parts.was)
