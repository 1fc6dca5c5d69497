-- The tests of a branch, for a `returns` whose definition goes by `ltb`, `leb` and `eqb`: `search
-- tests` finds the branch's facts by itself.
use borrow.Author.Rules.{rules}
use borrow.Author.Tests.{lt-ltb, le-ltb, le-leb, lt-leb, eq-eqb, ne_eqb}

pub ruleset tests = (rules, lt-ltb, le-ltb, le-leb, lt-leb, eq-eqb, ne_eqb)
