use mathlib.Core.Path.{refl, sym}
use lib.ListN.{get_or-eq_default}
use Rattle.heads.proofs.kind_at.Goals as goal

pub returns-then-at-octets : goal.returns-then-at-octets
returns-then-at-octets c = refl

pub returns-else-at-octets : goal.returns-else-at-octets
returns-else-at-octets c = sym (get_or-eq_default c.args.octets.now 0 c.if-at-octets.false)
