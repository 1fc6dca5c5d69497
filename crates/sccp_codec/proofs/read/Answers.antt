use Rattle.octets.proofs.Told.{handed_on}
use Rattle.sccp.proofs.Given.{read-laid, read-broken}
use Rattle.sccp_codec.proofs.read.Goals as goal

pub returns : goal.returns
returns c = read-laid c.args.message.now _ _ _ c.kind_at-kind.ensures c.shape_of.ensures c.read_parts.ensures _ c.in_ok-parts.was

pub returns-in_err-parts : goal.returns-in_err-parts
returns-in_err-parts c =
    rw (handed_on _ _ c.from_residual.ensures.1) (read-broken c.args.message.now _ _ _ c.kind_at-kind.ensures c.shape_of.ensures c.read_parts.ensures _ c.in_err-parts.was)
