use Rattle.octets.proofs.Told.{handed_on}
use mathlib.Core.Path.{sym, ◌∙◌, ap}
use Rattle.family.specs.Family.{rewrite_of}
use Rattle.family.proofs.Given.{broken-rewritten, unknown-rewritten, laid-parts}
use Rattle.rewriting.proofs.rewrite.Goals as goal

pub again-requires : goal.again-requires
again-requires c = let a = c.args in
    laid-parts a.message.now a.width a.most a.row a.head.now a.out.now _ c.read_parts.ensures _ _ c.in_ok-parts.was c.in-Some.is

pub returns-in_err-parts : goal.returns-in_err-parts
returns-in_err-parts c =
    rw (handed_on _ _ c.from_residual.ensures.1) (let a = c.args in
    broken-rewritten a.message.now a.width a.most a.row a.head.now a.out.now _ c.read_parts.ensures _ c.in_err-parts.was)

pub returns-in_default : goal.returns-in_default
returns-in_default c = let a = c.args in
    unknown-rewritten a.message.now a.width a.most a.row a.head.now a.out.now _ c.read_parts.ensures _ c.in_ok-parts.was c.in_default.is

pub returns : goal.returns
returns c = let a = c.args in
    c.again.ensures ∙ ap (λ r. rewrite_of a.message.now a.width a.most r a.head.now a.out.now) (sym c.in-Some.is)
