use Prim.Native.Nat.{zero-le}
use Rattle.planning.proofs.Puts.{up}
use mathlib.Core.Path.{sym, ap}
use borrow.Author.Tests.{le-ltb}
use Rattle.planning.specs.Planner.{low_ones_lem}
use Rattle.laying.proofs.low_ones.Goals as goal

pub returns-in-0 : goal.returns-in-0
unfolding low_ones_lem
returns-in-0 c = sym (ap low_ones_lem c.in-0.is)

pub returns-in-1 : goal.returns-in-1
unfolding low_ones_lem
returns-in-1 c = sym (ap low_ones_lem c.in-1.is)

pub returns-in-2 : goal.returns-in-2
unfolding low_ones_lem
returns-in-2 c = sym (ap low_ones_lem c.in-2.is)

pub returns-in-3 : goal.returns-in-3
unfolding low_ones_lem
returns-in-3 c = sym (ap low_ones_lem c.in-3.is)

pub returns-in-4 : goal.returns-in-4
unfolding low_ones_lem
returns-in-4 c = sym (ap low_ones_lem c.in-4.is)

pub returns-in-5 : goal.returns-in-5
unfolding low_ones_lem
returns-in-5 c = sym (ap low_ones_lem c.in-5.is)

pub returns-in-6 : goal.returns-in-6
unfolding low_ones_lem
returns-in-6 c = sym (ap low_ones_lem c.in-6.is)

pub returns-in-7 : goal.returns-in-7
unfolding low_ones_lem
returns-in-7 c = sym (ap low_ones_lem c.in-7.is)

pub returns-in_default : goal.returns-in_default
unfolding low_ones_lem
returns-in_default c = rw (le-ltb c.args.n 8 (up (up (up (up (up (up (up (up zero-le c.in_default.in_default-own.rest.0.0.0.0.0.0.0.1) c.in_default.in_default-own.rest.0.0.0.0.0.0.1) c.in_default.in_default-own.rest.0.0.0.0.0.1) c.in_default.in_default-own.rest.0.0.0.0.1) c.in_default.in_default-own.rest.0.0.0.1) c.in_default.in_default-own.rest.0.0.1) c.in_default.in_default-own.rest.0.1) c.in_default.in_default-own.rest.1))
