use Rattle.octets.proofs.Told.{handed_on}
use Rattle.bicc.proofs.Given.{read-long, read-laid, read-broken}
use Rattle.bicc_codec.proofs.read.Goals as goal

pub code_of-requires : goal.code_of-requires
code_of-requires c = read-long c.args.message.now _ _ _ c.kind_at-kind.ensures c.shape_of.ensures c.read_parts.ensures _ c.in_ok-parts.was

pub returns : goal.returns
returns c = read-laid c.args.message.now _ _ _ c.kind_at-kind.ensures c.shape_of.ensures c.read_parts.ensures _ _ c.in_ok-parts.was c.code_of.ensures

pub returns-in_err-parts : goal.returns-in_err-parts
returns-in_err-parts c =
    rw (handed_on _ _ c.from_residual.ensures.1) (read-broken c.args.message.now _ _ _ c.kind_at-kind.ensures c.shape_of.ensures c.read_parts.ensures _ c.in_err-parts.was)
