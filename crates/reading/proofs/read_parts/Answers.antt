use native.Mathlib.Omega.{arith}
use lib.ListN.{length}
use borrow.Author.Tests.{lt-ltb, le-leb, lt-leb}
use Rattle.layout.specs.Container.{parts_of}
use Rattle.reading.proofs.read_parts.Goals as goal

pub returns-then-octets-width : goal.returns-then-octets-width
unfolding parts_of
returns-then-octets-width c = let a = c.args in simp (le-leb (length a.octets.now) a.width (omega arith))

pub returns-then-most-octets : goal.returns-then-most-octets
unfolding parts_of
returns-then-most-octets c = simp (lt-leb _ _ c.if-octets-width.false, lt-ltb _ _ c.if-most-octets.true)
