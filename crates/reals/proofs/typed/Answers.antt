use Rattle.decimals.proofs.Glued.{sized, typed-none, typed-value}
use Rattle.reals.proofs.typed.Goals as goal

pub nearest-requires : goal.nearest-requires
nearest-requires c = sized c.decimal_from.ensures.1 c.in-Some.is

pub returns-in-None : goal.returns-in-None
returns-in-None c = typed-none _ c.decimal_from.ensures.0 c.in-None.is

pub returns-in-Some : goal.returns-in-Some
returns-in-Some c = typed-value _ c.decimal_from.ensures.0 c.in-Some.is c.nearest.ensures
